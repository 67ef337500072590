-- The first line of a text.
use Rattle.std.proofs.Common.{◌≡◌, ℕ, ◌+◌, ◌<◌, ◌≤◌, Bool, true, false, cond, eqb, leb, le-leb}
use Rattle.std.proofs.Common.{List, [], ◌∷◌, ◌++◌, length, take, drop, get_or, get_or-take}
use Rattle.std.proofs.Common.{length-take, Some, None, option_map, Ok, codes, append_assoc, refl}
use Rattle.std.proofs.Common.{sym, ap, subst, ◌∙◌, length-append, arith}
use Rattle.std.specs.Prelude.{not}
use Rattle.std.specs.Char.{is_ascii_digit}
use Rattle.std.specs.Str.{bytes_eq}
use Rattle.std.specs.Str.Lines.{lines, lines_of_parts, strip_carriage_return}
use Rattle.std.specs.List.{All, list_all, prefix_len, slice_split}
use Rattle.std.proofs.lemmas.Bool.{eqb-true, ne_eqb}
use Rattle.std.proofs.lemmas.List.{take_all, take-append-drop, drop_more}
use Rattle.std.proofs.lemmas.Slice.Eq.{bytes_eq-Decides}
use Rattle.std.proofs.lemmas.List.Sums.{prefix_len_passes, prefix_len_stops}
use Rattle.std.proofs.lemmas.List.Splits.{slice_split_at, slice_split_none, length-slice_split}
use Rattle.run_events.specs.declared.plan_kind.PlanKind.{PlanKind}
use Rattle.run_events.specs.declared.event.Event.{Event}
use Rattle.run_events.specs.declared.event.Event.TheVariants.{Step, Release}
use Rattle.schedule_text.specs.declared.draft.Sizes.{Sizes}
use Rattle.schedule_text.specs.declared.draft.Stage.TheVariants.{Whole}
use Rattle.schedule_text.specs.declared.kind.Kind.TheVariants.{Schedule}
use Rattle.schedule_text.specs.Numbers.{is_number, max_number, value_of}
use Rattle.schedule_text.specs.Fronts.{IsFrontEvent, IsNumberBefore}
use Rattle.schedule_text.specs.Stages.{State, after, event_of, line_step, by_stage, mapped}
use Rattle.schedule_text.specs.Stages.{release_of, step_of, numbers_in}
use Rattle.schedule_text.proofs.Numbers.{numbers-alone, numbers-more}
use Rattle.schedule_text.proofs.Split.{is_plain, lines-first, parts_more, plain-append}
use Rattle.schedule_text.proofs.Split.{plain_digits}

all_digits : (ds : List ℕ) → is_number ds ≡ true → list_all is_ascii_digit ds ≡ true
all_digits [] h = cc
all_digits (d ∷ ds) h = h

small_test : (n : ℕ) → n ≤ max_number → leb n max_number ≡ true
small_test n h = le-leb n max_number h

module _ {text rest : List ℕ} {end v : ℕ} (n : IsNumberBefore text end v rest) where
  plain : is_plain n.digits ≡ true
  plain = plain_digits n.digits (all_digits n.digits n.number)

  alone : numbers_in n.digits ≡ Some (v ∷ [])
  alone = numbers-alone n.digits n.number (all_digits n.digits n.number)
      ∙ ap (λ v. Some (v ∷ [])) (sym n.value)

  shorter : length rest < length text
  shorter = omega (arith, ap length n.parts, length-append n.digits (end ∷ rest))

-- `step I`
step_event : (ds : List ℕ) (v : ℕ) → numbers_in ds ≡ Some (v ∷ []) → v ≤ max_number
    → event_of (codes "step " ++ ds) ≡ Ok (Step v)
unfolding event_of after
step_event ds v h small = ap step_of h ∙ (let t = small_test v small in rw t refl)

pub front_step : (text rest : List ℕ) (v : ℕ) → IsNumberBefore text 10 v rest
    → IsFrontEvent (codes "step " ++ text) (Step v) rest
front_step text rest v n = record {
  line = codes "step " ++ n.digits;
  first =
      ap (λ t. lines (codes "step " ++ t)) (n.parts ∙ sym (append_assoc n.digits (10 ∷ []) rest))
      ∙ lines-first (codes "step " ++ n.digits) rest (plain n);
  event = step_event n.digits v (alone n) n.small;
  shorter = let l = shorter n in omega (arith, l);
}

-- `release J I R`
release_event : (xs ys zs : List ℕ) (j i r : ℕ)
    → numbers_in (xs ++ 32 ∷ (ys ++ 32 ∷ zs)) ≡ Some (j ∷ i ∷ r ∷ []) → j ≤ max_number
    → i ≤ max_number → r ≤ max_number
    → event_of (codes "release " ++ (xs ++ 32 ∷ (ys ++ 32 ∷ zs)))
    ≡ Ok (Release (record { from = j; to = i; round = r; copy = 0 }))
unfolding event_of after
release_event xs ys zs j i r h small-j small-i small-r =
    ap release_of h ∙ (let tj = small_test j small-j in let ti = small_test i small-i in
    let tr = small_test r small-r in rw (tj, ti, tr) refl)

regroup : (xs ys zs rest : List ℕ)
    → xs ++ 32 ∷ (ys ++ 32 ∷ (zs ++ 10 ∷ rest)) ≡ ((xs ++ 32 ∷ (ys ++ 32 ∷ zs)) ++ 10 ∷ []) ++ rest
regroup xs ys zs rest = simp append_assoc

pub front_release : (text behind_from behind_to rest : List ℕ) (j i r : ℕ)
    → IsNumberBefore text 32 j behind_from → IsNumberBefore behind_from 32 i behind_to
    → IsNumberBefore behind_to 10 r rest
    → IsFrontEvent (codes "release " ++ text)
    (Release (record { from = j; to = i; round = r; copy = 0 })) rest
front_release text behind_from behind_to rest j i r a b c =
    let numbers = a.digits ++ 32 ∷ (b.digits ++ 32 ∷ c.digits) in
    let behind = b.parts ∙ ap (λ t. b.digits ++ 32 ∷ t) c.parts in
    let whole = a.parts ∙ ap (λ t. a.digits ++ 32 ∷ t) behind
    ∙ regroup a.digits b.digits c.digits rest in
    let two = numbers-more b.digits c.digits b.number (all_digits b.digits b.number)
    ∙ ap (λ o. option_map (λ vs. value_of b.digits ∷ vs) o) (alone c) in
    let three = numbers-more a.digits (b.digits ++ 32 ∷ c.digits) a.number
    (all_digits a.digits a.number)
    ∙ ap (λ o. option_map (λ vs. value_of a.digits ∷ vs) o) two in
    let values : numbers_in numbers ≡ Some (j ∷ i ∷ r ∷ []) = three
    ∙ ap (λ v. Some (v ∷ value_of b.digits ∷ r ∷ [])) (sym a.value)
    ∙ ap (λ v. Some (j ∷ v ∷ r ∷ [])) (sym b.value) in
    let shown : is_plain numbers ≡ true =
    plain-append a.digits (32 ∷ (b.digits ++ 32 ∷ c.digits)) (plain a)
    (plain-append (32 ∷ b.digits) (32 ∷ c.digits) (plain b) (plain c)) in
    record {
      line = codes "release " ++ numbers;
      first = ap (λ t. lines (codes "release " ++ t)) whole
          ∙ lines-first (codes "release " ++ numbers) rest shown;
      event = release_event a.digits b.digits c.digits j i r values a.small b.small c.small;
      shorter = let la = shorter a in let lb = shorter b in let lc = shorter c in
          omega (arith, la, lb, lc);
    }

-- what follows this beginning
pub after_parts : (start text rest : List ℕ) → after start text ≡ Some rest → text ≡ start ++ rest
unfolding after
after_parts start text rest h = go (bytes_eq (take (length start) text) start) refl h
  where
    go : (b : Bool) → b ≡ bytes_eq (take (length start) text) start
        → cond b (Some (drop (length start) text)) None ≡ Some rest → text ≡ start ++ rest
    go true is e =
        let front : take (length start) text ≡ start =
        (bytes_eq-Decides (take (length start) text) start).0 (sym is) in
        let behind : drop (length start) text ≡ rest = cc in
        sym (take-append-drop (length start) text) ∙ ap (λ l. l ++ drop (length start) text) front
        ∙ ap (λ l. start ++ l) behind
    go false is e = absurd cc

not_other : (b : Bool) → not b ≡ true → b ≡ false
not_other true h = cc
not_other false h = refl

not_same : (b : Bool) → not b ≡ false → b ≡ true
not_same true h = refl
not_same false h = cc

module _ (t : List ℕ) (n : ℕ) (n-is : n ≡ prefix_len (λ b. not (eqb b 10)) t) where
  no_newline : All (λ b. eqb b 10 ≡ false) (take n t)
  no_newline k d h =
      let low : k < n = omega (arith, h, length-take n t) in
      let at = prefix_len_passes (λ b. not (eqb b 10)) t k d (omega (arith, low, n-is)) in
      rw (get_or-take n t k d low) (not_other (eqb (get_or t k d) 10) at)

  pub lines_whole : n ≡ length t → 0 < length t → lines t ≡ t ∷ lines []
  lines_whole all some =
      let same : take n t ≡ t = take_all n t (omega (arith, all)) in
      ap lines_of_parts (slice_split_none (λ b. eqb b 10) t
      (subst (All (λ b. eqb b 10 ≡ false)) same no_newline))
      ∙ ap (λ b. cond b [] (t ∷ [])) (ne_eqb (length t) 0 (λ e. omega (arith, e, some)))

  pub lines_cut : n < length t → lines t ≡ strip_carriage_return (take n t) ∷ lines (drop (n + 1) t)
  lines_cut low =
      let stops = prefix_len_stops (λ b. not (eqb b 10)) t 0 (omega (arith, low, n-is)) in
      let at : get_or t n 0 ≡ 10 = ap (λ k. get_or t k 0) n-is ∙ eqb-true _ 10 (not_same _ stops) in
      let parts = sym (take-append-drop n t) ∙ ap (λ l. take n t ++ l) (drop_more t n 0 low)
      ∙ ap (λ x. take n t ++ x ∷ drop (n + 1) t) at in
      ap lines parts
      ∙ ap lines_of_parts (slice_split_at (λ b. eqb b 10) (take n t) 10
      (drop (n + 1) t) no_newline refl)
      ∙ parts_more (take n t) (slice_split (λ b. eqb b 10) (drop (n + 1) t))
      (omega (arith, length-slice_split (λ b. eqb b 10) (drop (n + 1) t)))

-- an empty line and a comment are no events
no_empty_event : (e : Event) → event_of [] ≡ Ok e → ⊥
unfolding event_of after
no_empty_event e h = cc

no_comment_event : (bs : List ℕ) (e : Event) → event_of (35 ∷ bs) ≡ Ok e → ⊥
unfolding event_of after
no_comment_event bs e h = cc

-- a line of an event, where the header is whole
pub event_taken : (s : State) (z : Sizes) (p : PlanKind) (l : List ℕ) (e : Event)
    → s.stage ≡ Whole z p → event_of l ≡ Ok e
    → line_step Schedule s l ≡ Ok (record s { events = s.events ++ e ∷ [] })
unfolding line_step
event_taken s z p [] e stage h = absurd (no_empty_event e h)
event_taken s z p (b ∷ bs) e stage h = go (eqb b 35) refl
  where
    go : (is : Bool) → is ≡ eqb b 35
        → cond (eqb b 35) (Ok s) (by_stage Schedule s.stage s (b ∷ bs))
        ≡ Ok (record s { events = s.events ++ e ∷ [] })
    go true is =
        absurd (no_comment_event bs e (ap (λ x. event_of (x ∷ bs)) (sym (eqb-true b 35 (sym is)))
        ∙ h))
    go false is =
        ap (λ c. cond c (Ok s) (by_stage Schedule s.stage s (b ∷ bs))) (sym is)
        ∙ ap (λ g. by_stage Schedule g s (b ∷ bs)) stage
        ∙ ap (λ x. mapped (λ e. record s { events = s.events ++ e ∷ [] }) x) h
