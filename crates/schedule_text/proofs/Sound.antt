-- What the reader's stages answer is the text's reading.
use Rattle.std.proofs.Common.{◌≡◌, ℕ, suc, ◌+◌, ◌<◌, ◌≤◌, ltb, below_more, Bool, true, false, cond}
use Rattle.std.proofs.Common.{eqb, List, [], ◌∷◌, ◌++◌, length, map, take, get_or, Result, Ok, Err}
use Rattle.std.proofs.Common.{codes, inl, inr, append_assoc, refl, sym, ap, subst, ◌∙◌, arith}
use Rattle.std.proofs.Common.{length-append}
use Rattle.std.specs.Prelude.{not}
use Rattle.std.specs.List.{AllZip, filter}
use Rattle.std.specs.Str.Lines.{lines}
use Rattle.std.proofs.Math.Seq.{get_or-append_seam, take-append_seam}
use Rattle.std.proofs.lemmas.Bool.{ltb-true, ltb-false}
use Rattle.std.proofs.lemmas.List.{append-nil}
use Rattle.std.proofs.lemmas.List.Elements.{filter-append}
use Rattle.run_events.specs.declared.plan_kind.PlanKind.{PlanKind}
use Rattle.run_events.specs.declared.event.Event.{Event}
use Rattle.schedule_text.specs.declared.draft.Sizes.{Sizes}
use Rattle.schedule_text.specs.declared.draft.Stage.{Stage}
use Rattle.schedule_text.specs.declared.draft.Stage.TheVariants.{Start, Nodes, Faults, Inputs}
use Rattle.schedule_text.specs.declared.draft.Stage.TheVariants.{Rounds, Whole, Paced}
use Rattle.schedule_text.specs.declared.kind.Kind.{Kind}
use Rattle.schedule_text.specs.declared.kind.Kind.TheVariants.{Schedule, Threads, Header}
use Rattle.schedule_text.specs.declared.pace.Pace.{Pace}
use Rattle.schedule_text.specs.declared.pace.Stop.{Stop}
use Rattle.round_meaning.specs.declared.setup.Setup.{Setup}
use Rattle.schedule_text.specs.declared.fault.LineFault.{LineFault}
use Rattle.schedule_text.specs.declared.fault.LineFault.TheVariants as line
use Rattle.schedule_text.specs.declared.fault.ScheduleFault.TheVariants as fault
use Rattle.schedule_text.specs.Lines.{Line, nodes, faults, inputs, rounds, plan, event, pace, stop}
use Rattle.schedule_text.specs.Lines.{HasForm, HasSmallNumbers, Tells, numbers_of}
use Rattle.schedule_text.specs.Texts.{counts, lines_for, max_text}
use Rattle.schedule_text.specs.Readings.{AnswerOf, IsBad, IsFirst, IsFormed, IsGood, IsLarge}
use Rattle.schedule_text.specs.Readings.{IsReadingOf, fewest_lines, line_at, place_of}
use Rattle.schedule_text.specs.Stages.{
  State,
  answer_at_end,
  answer_of,
  by_stage,
  event_of,
  from_line,
}
use Rattle.schedule_text.specs.Stages.{
  go_on,
  header_at_end,
  inputs_of,
  line_step,
  mapped,
  one_after,
}
use Rattle.schedule_text.specs.Stages.{pace_at_end, pace_of, plan_of, setup_in, sized, sizes_of}
use Rattle.schedule_text.specs.Stages.{start, stop_of}
use Rattle.schedule_text.proofs.Forms.{Formed, line_formed, line_of, stands_at}
use Rattle.schedule_text.proofs.Places.{may_stand, place_at, sized_err, sized_ok, tells_read}

-- what was said by the lines up to a stage
abbrev said_by : Stage → List ℕ → List Event → List Stop → List Line
said_by Start vs es cs = []
said_by (Nodes n) vs es cs = nodes n ∷ []
said_by (Faults n t) vs es cs = nodes n ∷ faults t ∷ []
said_by (Inputs n t) vs es cs = nodes n ∷ faults t ∷ inputs vs ∷ []
said_by (Rounds z) vs es cs = nodes z.nodes ∷ faults z.faults ∷ inputs vs ∷ rounds z.rounds ∷ []
said_by (Whole z p) vs es cs =
    nodes z.nodes ∷ faults z.faults ∷ inputs vs ∷ rounds z.rounds ∷ plan p ∷ map event es
said_by (Paced z p x) vs es cs =
    nodes z.nodes ∷ faults z.faults ∷ inputs vs ∷ rounds z.rounds ∷ plan p ∷ pace x ∷ map stop cs

-- behind a header only a schedule has events, and a thread setup has no stop yet
abbrev IsEarlyTail : Kind → List Event → List Stop → Type 0
IsEarlyTail Schedule es cs = Unit {0}
IsEarlyTail Threads es cs = (es ≡ []) × (cs ≡ [])
IsEarlyTail Header es cs = es ≡ []

-- there is no event or stop before the header is whole, and only thread setups have a pace
abbrev IsEarly : Kind → Stage → List Event → List Stop → Type 0
IsEarly kind (Whole z p) es cs = IsEarlyTail kind es cs
IsEarly kind (Paced z p x) es cs = kind ≡ Threads
IsEarly kind _ es cs = (es ≡ []) × (cs ≡ [])

abbrev said_of : State → List Line
said_of s = said_by s.stage s.inputs s.events s.stops

abbrev IsEarlyAt : Kind → State → Type 0
IsEarlyAt kind s = IsEarly kind s.stage s.events s.stops

record Shows (kind : Kind) (s : State) (xs : List Line) : Type 0 where
  said : said_of s ≡ xs
  early : IsEarlyAt kind s

-- the reader goes on where the line does, with what it says
abbrev Follows : Kind → List Line → Result State LineFault → Result Line LineFault → Type 0
Follows kind xs (Ok s) (Ok x) = Shows kind s (xs ++ x ∷ [])
Follows kind xs (Err e) (Err f) = e ≡ f
Follows kind xs _ _ = ⊥

map-push : {A : Type 0} (f : A → Line) (es : List A) (e : A)
    → map f (es ++ e ∷ []) ≡ map f es ++ f e ∷ []
map-push f [] e = refl
map-push f (d ∷ es) e = ap (λ xs. f d ∷ xs) (map-push f es e)

early_tail : (kind : Kind) (es : List Event) (cs : List Stop) → es ≡ [] → cs ≡ []
    → IsEarlyTail kind es cs
early_tail Schedule es cs e c = tt
early_tail Threads es cs e c = (e, c)
early_tail Header es cs e c = e

-- behind the header
module _ (z : Sizes) (p : PlanKind) (vs : List ℕ) where
  abbrev head : List Line → List Line
  head xs = nodes z.nodes ∷ faults z.faults ∷ inputs vs ∷ rounds z.rounds ∷ plan p ∷ xs

  abbrev behind : List Event → List Stop → State
  behind es cs = record { stage = Whole z p; inputs = vs; events = es; stops = cs }

  abbrev paced : Pace → List Event → List Stop → State
  paced x es cs = record { stage = Paced z p x; inputs = vs; events = es; stops = cs }

  event_stepped : (es : List Event) (cs : List Stop) (l : List ℕ)
      → Follows Schedule (head (map event es)) (by_stage Schedule (Whole z p) (behind es cs) l)
      (line_of (place_at Schedule (length (head (map event es)))) l)
  event_stepped es cs l = go (event_of l)
    where
      go : (a : Result Event LineFault)
          → Follows Schedule (head (map event es)) (mapped (λ e. behind (es ++ e ∷ []) cs) a)
          (mapped (λ e. event e) a)
      go (Ok e) = record { said = ap (λ xs. head xs) (map-push (λ e. event e) es e); early = tt }
      go (Err e) = refl

  pace_stepped : (es : List Event) (cs : List Stop) (l : List ℕ) → es ≡ [] → cs ≡ []
      → Follows Threads (head (map event es)) (by_stage Threads (Whole z p) (behind es cs) l)
      (line_of (place_at Threads (length (head (map event es)))) l)
  pace_stepped (e ∷ es) cs l none free = absurd cc
  pace_stepped [] (c ∷ cs) l none free = absurd cc
  pace_stepped [] [] l none free = go (pace_of l)
    where
      go : (a : Result Pace LineFault)
          → Follows Threads (head []) (mapped (λ x. paced x [] []) a) (mapped (λ x. pace x) a)
      go (Ok x) = record { said = refl; early = refl }
      go (Err e) = refl

  end_stepped : (es : List Event) (cs : List Stop) (l : List ℕ) → es ≡ []
      → Follows Header (head (map event es)) (by_stage Header (Whole z p) (behind es cs) l)
      (line_of (place_at Header (length (head (map event es)))) l)
  end_stepped (e ∷ es) cs l none = absurd cc
  end_stepped [] cs l none = refl

  tail_stepped : (kind : Kind) (es : List Event) (cs : List Stop) (l : List ℕ)
      → IsEarlyTail kind es cs
      → Follows kind (head (map event es)) (by_stage kind (Whole z p) (behind es cs) l)
      (line_of (place_at kind (length (head (map event es)))) l)
  tail_stepped Schedule es cs l early = event_stepped es cs l
  tail_stepped Threads es cs l early = pace_stepped es cs l early.0 early.1
  tail_stepped Header es cs l early = end_stepped es cs l early

  stop_stepped : (kind : Kind) (x : Pace) (es : List Event) (cs : List Stop) (l : List ℕ)
      → kind ≡ Threads
      → Follows kind (head (pace x ∷ map stop cs))
      (by_stage kind (Paced z p x) (paced x es cs) l)
      (line_of (place_at kind (length (head (pace x ∷ map stop cs)))) l)
  stop_stepped Schedule x es cs l is = absurd cc
  stop_stepped Header x es cs l is = absurd cc
  stop_stepped Threads x es cs l is = go (stop_of l)
    where
      go : (a : Result Stop LineFault)
          → Follows Threads (head (pace x ∷ map stop cs))
          (mapped (λ c. paced x es (cs ++ c ∷ [])) a) (mapped (λ c. stop c) a)
      go (Ok c) = record {
        said = ap (λ xs. head (pace x ∷ xs)) (map-push (λ c. stop c) cs c);
        early = refl;
      }
      go (Err e) = refl

stepped : (kind : Kind) (g : Stage) (vs : List ℕ) (es : List Event) (cs : List Stop) (l : List ℕ)
    → IsEarly kind g es cs
    → Follows kind (said_by g vs es cs)
    (by_stage kind g (record { stage = g; inputs = vs; events = es; stops = cs }) l)
    (line_of (place_at kind (length (said_by g vs es cs))) l)
stepped kind Start vs es cs l early = go (one_after (codes "nodes ") l)
  where
    go : (r : Result ℕ LineFault)
        → Follows kind []
        (mapped (λ n. record { stage = Nodes n; inputs = vs; events = es; stops = cs }) r)
        (mapped (λ n. nodes n) r)
    go (Ok n) = record { said = refl; early = early }
    go (Err e) = refl
stepped kind (Nodes n) vs es cs l early = go (one_after (codes "faults ") l)
  where
    go : (r : Result ℕ LineFault)
        → Follows kind (nodes n ∷ [])
        (mapped (λ t. record { stage = Faults n t; inputs = vs; events = es; stops = cs }) r)
        (mapped (λ n. faults n) r)
    go (Ok t) = record { said = refl; early = early }
    go (Err e) = refl
stepped kind (Faults n t) vs es cs l early = go (inputs_of l)
  where
    go : (r : Result (List ℕ) LineFault)
        → Follows kind (nodes n ∷ faults t ∷ [])
        (mapped (λ vs. record { stage = Inputs n t; inputs = vs; events = es; stops = cs }) r)
        (mapped (λ vs. inputs vs) r)
    go (Ok us) = record { said = refl; early = early }
    go (Err e) = refl
stepped kind (Inputs n t) vs es cs l early = go (one_after (codes "rounds ") l)
  where
    go : (r : Result ℕ LineFault)
        → Follows kind (nodes n ∷ faults t ∷ inputs vs ∷ [])
        (mapped (λ r. record {
          stage = Rounds (sizes_of n t r);
          inputs = vs;
          events = es;
          stops = cs;
        }) r)
        (mapped (λ n. rounds n) r)
    go (Ok r) = record { said = refl; early = early }
    go (Err e) = refl
stepped kind (Rounds z) vs es cs l early = go (plan_of l)
  where
    go : (a : Result PlanKind LineFault)
        → Follows kind (nodes z.nodes ∷ faults z.faults ∷ inputs vs ∷ rounds z.rounds ∷ [])
        (mapped (λ p. record { stage = Whole z p; inputs = vs; events = es; stops = cs }) a)
        (mapped (λ p. plan p) a)
    go (Ok p) = record {
      said = ap (λ xs. nodes z.nodes ∷ faults z.faults ∷ inputs vs ∷ rounds z.rounds ∷ plan p
          ∷ map event xs) early.0;
      early = early_tail kind es cs early.0 early.1;
    }
    go (Err e) = refl
stepped kind (Whole z p) vs es cs l early = tail_stepped z p vs kind es cs l early
stepped kind (Paced z p x) vs es cs l early = stop_stepped z p vs kind x es cs l early

-- a line that doesn't count, and one that does
skipped : (kind : Kind) (s : State) (l : List ℕ) → counts l ≡ false → line_step kind s l ≡ Ok s
unfolding line_step
skipped kind s [] h = refl
skipped kind s (b ∷ bs) h = go (eqb b 35) h
  where
    go : (c : Bool) → not c ≡ false → cond c (Ok s) (by_stage kind s.stage s (b ∷ bs)) ≡ Ok s
    go true h = refl
    go false h = absurd cc

taken : (kind : Kind) (s : State) (l : List ℕ) → counts l ≡ true
    → line_step kind s l ≡ by_stage kind s.stage s l
unfolding line_step
taken kind s [] h = absurd cc
taken kind s (b ∷ bs) h = go (eqb b 35) h
  where
    go : (c : Bool) → not c ≡ true
        → cond c (Ok s) (by_stage kind s.stage s (b ∷ bs)) ≡ by_stage kind s.stage s (b ∷ bs)
    go true h = absurd cc
    go false h = refl

zip_push : (ls : List (List ℕ)) (xs : List Line) (l : List ℕ) (x : Line) → AllZip Tells ls xs
    → Tells l x → AllZip Tells (ls ++ l ∷ []) (xs ++ x ∷ [])
zip_push [] [] l x h t = (t, tt)
zip_push [] (y ∷ xs) l x h t = absurd h
zip_push (k ∷ ls) [] l x h t = absurd h
zip_push (k ∷ ls) (y ∷ xs) l x h t = (h.0, zip_push ls xs l x h.1 t)

pub zip_length : (ls : List (List ℕ)) (xs : List Line) → AllZip Tells ls xs → length ls ≡ length xs
zip_length [] [] h = refl
zip_length [] (x ∷ xs) h = absurd h
zip_length (l ∷ ls) [] h = absurd h
zip_length (l ∷ ls) (x ∷ xs) h = ap (λ n. suc n) (zip_length ls xs h.1)

-- the reading of all lines of a text that isn't too long
abbrev IsReadingIn : (kind : Kind) → List (List ℕ) → AnswerOf kind → Type 0
IsReadingIn kind all (Ok r) = AllZip Tells (filter counts all) (lines_for kind r.0 r.1 r.2)
IsReadingIn kind all (Err fault.TooLong) = ⊥
IsReadingIn kind all (Err (fault.BadLine n)) = IsFirst IsBad kind all n
IsReadingIn kind all (Err (fault.NumberTooLarge n)) = IsFirst IsLarge kind all n
IsReadingIn kind all (Err fault.NoMemory) = ⊥

abbrev Before : Kind → List (List ℕ) → List (List ℕ) → Type 0
Before kind all done = (j : ℕ) → j < length done → IsGood kind all j

five_at_least : (kind : Kind) → 5 ≤ fewest_lines kind
five_at_least Schedule = omega arith
five_at_least Threads = omega arith
five_at_least Header = omega arith

-- the end of a text
module _ (kind : Kind) (all : List (List ℕ)) (good : Before kind all all) where
  within : (xs : List Line) → AllZip Tells (filter counts all) xs → length xs < fewest_lines kind
      → IsFirst IsBad kind all (length all + 1)
  within xs told few =
      let whole : take (length all) all ≡ all = ap (λ x. take (length all) x) (sym (append-nil all))
      ∙ take-append_seam all [] in
      let place : place_of all (length all) ≡ length xs = ap (λ ls. length (filter counts ls)) whole
      ∙ zip_length (filter counts all) xs told in
      record {
        index = length all;
        number = refl;
        before = good;
        wrong = inr (refl, omega (arith, place, few));
      }

  early : (xs : List Line) → AllZip Tells (filter counts all) xs → length xs < 5
      → IsFirst IsBad kind all (length all + 1)
  early xs told few = within xs told (let five = five_at_least kind in omega (arith, five, few))

header_ends : (kind : Kind) (all : List (List ℕ)) (good : Before kind all all) (u : Setup)
    (p : PlanKind) (es : List Event) (cs : List Stop) → IsEarlyTail kind es cs
    → AllZip Tells (filter counts all)
    (nodes u.nodes ∷ faults u.faults ∷ inputs u.inputs ∷ rounds u.rounds ∷ plan p ∷ map event es)
    → IsReadingIn kind all (header_at_end kind (length all + 1) u p es)
header_ends Schedule all good u p es cs e told = told
header_ends Threads all good u p [] cs e told =
    within Threads all good (nodes u.nodes ∷ faults u.faults ∷ inputs u.inputs ∷ rounds u.rounds
    ∷ plan p ∷ []) told (omega arith)
header_ends Threads all good u p (d ∷ es) cs e told = let none = e.0 in absurd (cc none)
header_ends Header all good u p [] cs e told = told
header_ends Header all good u p (d ∷ es) cs e told = absurd (cc e)

pace_ends : (kind : Kind) (all : List (List ℕ)) (u : Setup) (p : PlanKind) (x : Pace)
    (cs : List Stop) → kind ≡ Threads
    → AllZip Tells (filter counts all)
    (nodes u.nodes ∷ faults u.faults ∷ inputs u.inputs ∷ rounds u.rounds ∷ plan p ∷ pace x
    ∷ map stop cs) → IsReadingIn kind all (pace_at_end kind (length all + 1) u p x cs)
pace_ends Schedule all u p x cs is told = absurd cc
pace_ends Threads all u p x cs is told = told
pace_ends Header all u p x cs is told = absurd cc

at_end : (kind : Kind) (all : List (List ℕ)) (good : Before kind all all) (g : Stage) (vs : List ℕ)
    (es : List Event) (cs : List Stop) → IsEarly kind g es cs
    → AllZip Tells (filter counts all) (said_by g vs es cs)
    → IsReadingIn kind all (answer_at_end kind (length all + 1) g
    (record { stage = g; inputs = vs; events = es; stops = cs }))
at_end kind all good Start vs es cs e told = early kind all good [] told (omega arith)
at_end kind all good (Nodes n) vs es cs e told =
    early kind all good (nodes n ∷ []) told (omega arith)
at_end kind all good (Faults n t) vs es cs e told =
    early kind all good (nodes n ∷ faults t ∷ []) told (omega arith)
at_end kind all good (Inputs n t) vs es cs e told =
    early kind all good (nodes n ∷ faults t ∷ inputs vs ∷ []) told (omega arith)
at_end kind all good (Rounds z) vs es cs e told =
    early kind all good (nodes z.nodes ∷ faults z.faults ∷ inputs vs ∷ rounds z.rounds ∷ []) told
    (omega arith)
at_end kind all good (Whole z p) vs es cs e told =
    header_ends kind all good (setup_in z vs) p es cs e told
at_end kind all good (Paced z p x) vs es cs e told =
    pace_ends kind all (setup_in z vs) p x cs e told

-- a line behind those that are done, all of them good
module _ (kind : Kind) (all done : List (List ℕ)) (l : List ℕ) (ls : List (List ℕ))
    (whole : all ≡ done ++ l ∷ ls) (good : Before kind all done) where
  here : line_at all (length done) ≡ l
  here = ap (λ x. get_or x (length done) []) whole ∙ get_or-append_seam done l ls []

  front : take (length done) all ≡ done
  front = ap (take (length done)) whole ∙ take-append_seam done (l ∷ ls)

  inside : length done < length all
  inside = omega (arith, ap length whole, length-append done (l ∷ ls))

  place : (xs : List Line) → AllZip Tells (filter counts done) xs
      → place_of all (length done) ≡ length xs
  place xs told = ap (λ x. length (filter counts x)) front ∙ zip_length (filter counts done) xs told

  skips : counts l ≡ false → filter counts (done ++ l ∷ []) ≡ filter counts done
  skips c = filter-append counts done (l ∷ [])
      ∙ ap (λ b. filter counts done ++ cond b (l ∷ []) []) c ∙ append-nil (filter counts done)

  keeps : counts l ≡ true → filter counts (done ++ l ∷ []) ≡ filter counts done ++ l ∷ []
  keeps c = filter-append counts done (l ∷ [])
      ∙ ap (λ b. filter counts done ++ cond b (l ∷ []) []) c

  -- what the rest is read as
  abbrev Goes : Type 0
  Goes = (s : State) → IsEarlyAt kind s → AllZip Tells (filter counts (done ++ l ∷ [])) (said_of s)
      → IsGood kind all (length done)
      → IsReadingIn kind all (from_line kind ((length done + 1) + 1) s ls)

  module _ (s : State) (early : IsEarlyAt kind s)
      (told : AllZip Tells (filter counts done) (said_of s)) (goes : Goes) where
    abbrev GoesOn : Result State LineFault → Type 0
    GoesOn a = IsReadingIn kind all
        (go_on (length done + 1) a (λ s. from_line kind ((length done + 1) + 1) s ls))

    reads_skipped : counts l ≡ false → GoesOn (line_step kind s l)
    reads_skipped c =
        subst (λ (a : Result State LineFault). GoesOn a) (sym (skipped kind s l c))
        (goes s early (subst (λ (k : List (List ℕ)). AllZip Tells k (said_of s))
        (sym (skips c)) told) (inl (ap counts here ∙ c)))

    -- a line that counts, with what is read of it
    module _ (c : counts l ≡ true) (r : Result Line LineFault)
        (read : line_of (place_at kind (length (said_of s))) l ≡ r) where
      formed_here : (x : Line) → IsFormed kind all (length done) x → r ≡ sized (numbers_of x) x
      formed_here x formed =
          let at = place (said_of s) told in
          let is = tells_read kind (place_of all (length done))
          (line_at all (length done)) x formed.form formed.place in
          sym read ∙ ap (λ t. line_of (place_at kind (length (said_of s))) t) (sym here)
          ∙ ap (λ k. line_of (place_at kind k) (line_at all (length done))) (sym at) ∙ is

      says_here : (x : Line) → HasForm l x → stands_at x ≡ place_at kind (length (said_of s))
          → IsFormed kind all (length done) x
      says_here x form stands = record {
        form = subst (λ (t : List ℕ). HasForm t x) (sym here) form;
        place = may_stand kind (place_of all (length done)) x (stands
            ∙ ap (place_at kind) (sym (place (said_of s) told)));
      }

      bad_here : r ≡ Err line.Bad → IsFirst IsBad kind all (length done + 1)
      bad_here bad = record {
        index = length done;
        number = refl;
        before = good;
        wrong = inl (
          (inside, ap counts here ∙ c),
          λ x formed. not_bad x (sym bad ∙ formed_here x formed),
        );
      }
        where
          not_bad : (x : Line) → Err line.Bad ≡ sized (numbers_of x) x → ⊥
          not_bad x h = let e : line.Bad ≡ line.Large = (sized_err line.Bad x h).1 in absurd cc

      large_here : (x : Line) → HasForm l x → stands_at x ≡ place_at kind (length (said_of s))
          → ¬ HasSmallNumbers x → IsFirst IsLarge kind all (length done + 1)
      large_here x form stands large =
          record {
            index = length done;
            number = refl;
            before = good;
            wrong = ((inside, ap counts here ∙ c), (x, says_here x form stands, large));
          }

      ok_here : (a : State) (x y : Line) → Shows kind a (said_of s ++ x ∷ []) → HasForm l y
          → stands_at y ≡ place_at kind (length (said_of s)) → HasSmallNumbers y → x ≡ y
          → GoesOn (Ok a)
      ok_here a x y shows form stands small same =
          let told' = zip_push (filter counts done) (said_of s) l x told
          (subst (λ (z : Line). Tells l z) (sym same)
          (record { form = form; small = small })) in
          goes a shows.early
          (subst (λ (xs : List Line). AllZip Tells (filter counts (done ++ l ∷ [])) xs)
          (sym shows.said)
          (subst (λ (k : List (List ℕ)). AllZip Tells k (said_of s ++ x ∷ []))
          (sym (keeps c)) told'))
          (inr (y, says_here y form stands, small))

    fault_here : (e : LineFault) (r : Result Line LineFault) → counts l ≡ true
        → line_of (place_at kind (length (said_of s))) l ≡ r
        → Formed (place_at kind (length (said_of s))) l r → r ≡ Err e → GoesOn (Err e)
    fault_here e r c read (inl bad) err =
        let same : line.Bad ≡ e = cc in
        subst (λ (f : LineFault). GoesOn (Err f)) same (bad_here c r read bad)
    fault_here e r c read (inr h) err =
        let f = sized_err e h.0 (sym err ∙ h.3) in
        subst (λ (g : LineFault). GoesOn (Err g)) (sym f.1) (large_here c r read h.0 h.1 h.2 f.0)

    kept_here : (a : Result State LineFault) (r : Result Line LineFault) → counts l ≡ true
        → line_of (place_at kind (length (said_of s))) l ≡ r → Follows kind (said_of s) a r
        → Formed (place_at kind (length (said_of s))) l r → GoesOn a
    kept_here (Ok a) (Ok x) c read shows (inl bad) = absurd cc
    kept_here (Ok a) (Ok x) c read shows (inr h) = let o = sized_ok x h.0 h.3 in
        ok_here c (Ok x) read a x h.0 shows h.1 h.2 o.0 o.1
    kept_here (Ok a) (Err f) c read shows formed = absurd shows
    kept_here (Err e) (Ok x) c read same formed = absurd same
    kept_here (Err e) (Err f) c read same formed =
        subst (λ (g : LineFault). GoesOn (Err g)) (sym same)
        (fault_here f (Err f) c read formed refl)

    reads_line : GoesOn (line_step kind s l)
    reads_line = go (counts l) refl
      where
        go : (b : Bool) → counts l ≡ b → GoesOn (line_step kind s l)
        go false c = reads_skipped c
        go true c =
            subst (λ (a : Result State LineFault). GoesOn a) (sym (taken kind s l c))
            (kept_here (by_stage kind s.stage s l) (line_of (place_at kind (length (said_of s))) l)
            c refl (stepped kind s.stage s.inputs s.events s.stops l early)
            (line_formed (place_at kind (length (said_of s))) l))

-- from any line on
reads : (kind : Kind) (all ls done : List (List ℕ)) (s : State) → all ≡ done ++ ls
    → Before kind all done → IsEarlyAt kind s → AllZip Tells (filter counts done) (said_of s)
    → IsReadingIn kind all (from_line kind (length done + 1) s ls)
unfolding from_line
reads kind all [] done s whole good early told =
    let all-is : done ≡ all = sym (append-nil done) ∙ sym whole in
    subst (λ (d : List (List ℕ)). IsReadingIn kind all
    (answer_at_end kind (length d + 1) s.stage s)) (sym all-is)
    (at_end kind all (subst (λ (d : List (List ℕ)). Before kind all d) all-is good) s.stage s.inputs
    s.events s.stops early
    (subst (λ (d : List (List ℕ)). AllZip Tells (filter counts d) (said_of s)) all-is told))
reads kind all (l ∷ ls) done s whole good early told =
    reads_line kind all done l ls whole good s early told (λ next early' told' here.
    let more : length (done ++ l ∷ []) ≡ length done + 1 = length-append done (l ∷ []) in
    subst (λ (k : ℕ). IsReadingIn kind all (from_line kind (k + 1) next ls)) more
    (reads kind all ls (done ++ l ∷ []) next (whole
    ∙ sym (append_assoc done (l ∷ []) ls))
    (λ j lt. below_more _ _ good here j (omega (arith, lt, more))) early' told'))

lifted : (kind : Kind) (text : List ℕ) (a : AnswerOf kind) → length text ≤ max_text
    → IsReadingIn kind (lines text) a → IsReadingOf kind text a
lifted kind text (Ok r) short h = record { short = short; each = h }
lifted kind text (Err fault.TooLong) short h = absurd h
lifted kind text (Err (fault.BadLine n)) short h = (short, h)
lifted kind text (Err (fault.NumberTooLarge n)) short h = (short, h)
lifted kind text (Err fault.NoMemory) short h = absurd h

-- what the stages answer for a text that isn't too long
pub short_sound : (kind : Kind) (text : List ℕ) → length text ≤ max_text
    → IsReadingOf kind text (from_line kind 1 start (lines text))
short_sound kind text short =
    lifted kind text (from_line kind 1 start (lines text)) short
    (reads kind (lines text) (lines text) [] start refl (λ j lt. absurd (omega (arith, lt)))
    (refl, refl) tt)

pub sound : (kind : Kind) (text : List ℕ) → IsReadingOf kind text (answer_of kind text)
unfolding answer_of
sound kind text = go (ltb max_text (length text)) refl
  where
    go : (b : Bool) → ltb max_text (length text) ≡ b
        → IsReadingOf kind text (cond b (Err fault.TooLong) (from_line kind 1 start (lines text)))
    go true long = ltb-true max_text (length text) long
    go false short = short_sound kind text (ltb-false max_text (length text) short)
