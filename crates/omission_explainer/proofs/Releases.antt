-- When a copy was let in, by places and by what became of it.
use Rattle.std.proofs.Common.{◌≡◌, ℕ, zero, suc, ◌<◌, ◌≤◌, Bool, true, false, if◌then◌else◌, List}
use Rattle.std.proofs.Common.{Option, Some, None, min, sym, refl, ap, ◌∙◌, arith, ◌⊎◌, inl, inr}
use Rattle.std.specs.Prelude.{option_map, reverse}
use Rattle.std.specs.Option.{unwrap_or}
use Rattle.std.proofs.lemmas.Bool.{cases_lt}
use Rattle.std.proofs.lemmas.Option.{same_Some}
use Rattle.round_lang.specs.declared.value.Value.{Value}
use Rattle.run_events.specs.declared.event.Event.{Event}
use Rattle.run_events.specs.declared.name.Name.{Name}
use Rattle.run_events.specs.Names.{original}
use Rattle.step_book.specs.declared.mark.Mark.{Mark}
use Rattle.step_book.specs.Fates.{Fate, Unmade, Moving, Waiting, Taken, Lost, fate}
use Rattle.step_book.specs.History.{counted, marked, message}
use Rattle.step_book.specs.Places.{Copied, IsLeftAt, IsMadeAt}
use Rattle.step_book.specs.Places.{IsSlotAt, Sent, steps_before}
use Rattle.step_book.specs.Trace.{steps}
use Rattle.step_book.specs.World.{World, lies_near}
use Rattle.step_book.proofs.Fates.{LetIn, let_in, let_near}
use Rattle.step_book.proofs.Kept.{mark_is}
use Rattle.step_book.proofs.Placed.{
  Placed,
  first_one,
  made_found,
  made_one,
  placed,
  release_drop,
  slot_one,
}
use Rattle.omission_explainer.specs.Lateness.{copy_open_until, is_spoken, least_copy, marks_of}
use Rattle.omission_explainer.specs.Lateness.{open_until}
use Rattle.omission_explainer.specs.Verdict.{IsLetInAt}

-- ---- the step count of its receiver when a copy was let in

-- none where it wasn't
abbrev pub let_in_of : Fate → Option ℕ
let_in_of Unmade = None
let_in_of Moving = None
let_in_of (Waiting x) = Some x
let_in_of (Taken x c) = Some x
let_in_of Lost = None

module _ (w : World) (t : List Event) (n : Name) where
  found_by : (b : ℕ) (f : Fate) → IsLetInAt w (reverse t) n b → fate w t n ≡ f
      → Placed w (reverse t) n f → let_in_of f ≡ Some (steps_before (reverse t) n.to b)
  found_by b Unmade h e p = absurd (made_found w t n h.place h.made e)
  found_by b Moving h e p =
      let same = made_one w t n p.a h.place p.made h.made in
      let l = h.leaves.later in
      absurd (p.none b (omega arith) h.leaves.there)
  found_by b (Waiting x) h e p =
      let same = made_one w t n p.a h.place p.made h.made in
      let one = first_one (IsLeftAt (reverse t) n) p.a p.b h.place b same p.leaves h.leaves in
      ap Some (sym p.count ∙ ap (steps_before (reverse t) n.to) one)
  found_by b (Taken x c) h e p =
      let same = made_one w t n p.a h.place p.made h.made in
      let one = first_one (IsLeftAt (reverse t) n) p.a p.b h.place b same p.leaves h.leaves in
      ap Some (sym p.count ∙ ap (steps_before (reverse t) n.to) one)
  found_by b Lost h e p =
      let same = made_one w t n h.place p.a h.made p.made in
      absurd (release_drop (reverse t) n b p.b
      (first_one (IsLeftAt (reverse t) n) h.place b p.a p.b same h.leaves p.leaves) h.release
      p.drop)

  -- what became of a copy tells how many steps its receiver had taken at the place where it was let
  -- in
  pub let_in_found : (b : ℕ) → IsLetInAt w (reverse t) n b
      → let_in_of (fate w t n) ≡ Some (steps_before (reverse t) n.to b)
  let_in_found b h = found_by b (fate w t n) h refl (placed w t n)

  place_by : (x : ℕ) (f : Fate) → let_in_of f ≡ Some x → Placed w (reverse t) n f
      → (b : ℕ) × IsLetInAt w (reverse t) n b × (steps_before (reverse t) n.to b ≡ x)
  place_by x Unmade e p = cc
  place_by x Moving e p = cc
  place_by x (Waiting y) e p = (
    p.b,
    record { place = p.a; made = p.made; leaves = p.leaves; release = p.release },
    p.count
        ∙ same_Some y x e,
  )
  place_by x (Taken y c) e p = (
    p.b,
    record { place = p.a; made = p.made; leaves = p.leaves; release = p.release },
    p.count
        ∙ same_Some y x e,
  )
  place_by x Lost e p = cc

  -- and that place is there
  pub let_in_place : (x : ℕ) → let_in_of (fate w t n) ≡ Some x
      → (b : ℕ) × IsLetInAt w (reverse t) n b × (steps_before (reverse t) n.to b ≡ x)
  let_in_place x e = place_by x (fate w t n) e (placed w t n)

  few_by : (s x : ℕ) (f : Fate) → let_in_of f ≡ Some x → LetIn w s f → x ≤ s
  few_by s x Unmade e l = cc
  few_by s x Moving e l = cc
  few_by s x (Waiting y) e l = let same = same_Some y x e in let low = l.0 in omega arith
  few_by s x (Taken y c) e l = let same = same_Some y x e in let low = l.0 in let more = l.1 in
      omega arith
  few_by s x Lost e l = cc

  -- its receiver had taken no more steps then
  pub let_in_few : (x : ℕ) → let_in_of (fate w t n) ≡ Some x → x ≤ steps n.to t
  let_in_few x e = few_by (steps n.to t) x (fate w t n) e (let_in w t n)

-- it was let in near its round where its receiver's step count then lies there
pub near_by : (w : World) (r x : ℕ) (f : Fate) → let_in_of f ≡ Some x
    → let_near w r f ≡ lies_near w r x
near_by w r x Unmade e = cc
near_by w r x Moving e = cc
near_by w r x (Waiting y) e = ap (lies_near w r) (same_Some y x e)
near_by w r x (Taken y c) e = ap (lies_near w r) (same_Some y x e)
near_by w r x Lost e = cc

-- ---- where copies of a message are let in

made_after : (w : World) (t : List Event) (n : Name) (k a p : ℕ) → IsSlotAt w (reverse t) n a
    → IsMadeAt w (reverse t) (record n { copy = k }) p → a ≤ p
made_after w t n k a p slot (Sent c h) = let same = slot_one w t n a p slot h in omega arith
made_after w t n k a p slot (Copied c h) =
    let same = slot_one w t n a h.slot slot h.sent in
    let later = h.first.later in
    omega arith

-- a copy is let in after its message's slot
pub let_in_after : (w : World) (t : List Event) (n : Name) (k a b : ℕ) → IsSlotAt w (reverse t) n a
    → IsLetInAt w (reverse t) (record n { copy = k }) b → a < b
let_in_after w t n k a b slot h = let low = made_after w t n k a h.place slot h.made in
    let later = h.leaves.later in omega arith

-- ---- the least of a message's copies

pub least_below : (f : ℕ → ℕ) (k : ℕ) → k ≤ 3 → least_copy f ≤ f k
least_below f zero l = omega arith
least_below f (suc zero) l = omega arith
least_below f (suc (suc zero)) l = omega arith
least_below f (suc (suc (suc zero))) l = omega arith
least_below f (suc (suc (suc (suc k)))) l = absurd (omega arith)

least_by : (f : ℕ → ℕ) (x : ℕ) → least_copy f ≤ x → (x < f 0) ⊎ (f 0 ≤ x) → (x < f 1) ⊎ (f 1 ≤ x)
    → (x < f 2) ⊎ (f 2 ≤ x) → (k : ℕ) × (k ≤ 3) × (f k ≤ x)
least_by f x l (inr a) b c = (0, omega arith, a)
least_by f x l (inl a) (inr b) c = (1, omega arith, b)
least_by f x l (inl a) (inl b) (inr c) = (2, omega arith, c)
least_by f x l (inl a) (inl b) (inl c) = (3, omega arith, omega arith)

-- if it doesn't pass a number, one of them doesn't
pub least_found : (f : ℕ → ℕ) (x : ℕ) → least_copy f ≤ x → (k : ℕ) × (k ≤ 3) × (f k ≤ x)
least_found f x l = least_by f x l (cases_lt _ _) (cases_lt _ _) (cases_lt _ _)

-- ---- until when a message is lacked

copy_open : (w : World) (k count : ℕ) (m : List Value) (f : Fate)
    → copy_open_until count (marked w k (Some m) f)
    ≡ unwrap_or (option_map (counted w) (let_in_of f)) count
copy_open w k count m Unmade = refl
copy_open w k count m Moving = refl
copy_open w k count m (Waiting x) = refl
copy_open w k count m (Taken x c) = refl
copy_open w k count m Lost = refl

spoken_made : (w : World) (m : List Value) (f : Fate) → (f ≡ Unmade → ⊥)
    → is_spoken (marked w 0 (Some m) f) ≡ true
spoken_made w m Unmade h = absurd (h refl)
spoken_made w m Moving h = refl
spoken_made w m (Waiting x) h = refl
spoken_made w m (Taken x c) h = refl
spoken_made w m Lost h = refl

unspoken : (w : World) (f : Fate) → is_spoken (marked w 0 None f) ≡ false
unspoken w Unmade = refl
unspoken w Moving = refl
unspoken w (Waiting x) = refl
unspoken w (Taken x c) = refl
unspoken w Lost = refl

-- silence, by the mark of copy 0
pub open_none : (count : ℕ) (marks : ℕ → Mark) (x : Mark) → x ≡ marks 0 → is_spoken x ≡ false
    → 0 ≡ open_until count marks
open_none count marks x e off =
    sym (ap (λ (b : Bool). if b then least_copy (λ k. copy_open_until count (marks k)) else 0)
    (ap is_spoken (sym e) ∙ off))

-- and a message, by the marks of its copies
pub open_least : (count : ℕ) (marks : ℕ → Mark) (x : Mark) (a b c d : ℕ) → x ≡ marks 0
    → is_spoken x ≡ true → a ≡ copy_open_until count (marks 0) → b ≡ copy_open_until count (marks 1)
    → c ≡ copy_open_until count (marks 2) → d ≡ copy_open_until count (marks 3)
    → min (min (min a b) c) d ≡ open_until count marks
open_least count marks x a b c d e on first second third fourth =
    ap (λ y. min (min (min y b) c) d) first
    ∙ ap (λ y. min (min (min (copy_open_until count (marks 0)) y) c) d) second
    ∙ ap (λ y. min (min (min (copy_open_until count (marks 0)) (copy_open_until count (marks 1))) y)
    d) third
    ∙ ap (min (min (min (copy_open_until count (marks 0)) (copy_open_until count (marks 1)))
    (copy_open_until count (marks 2)))) fourth
    ∙ sym (ap (λ (b : Bool). if b then least_copy (λ k. copy_open_until count (marks k)) else 0)
    (ap is_spoken (sym e) ∙ on))

module _ (w : World) (t : List Event) (n : Name) where
  abbrev pub copy_fate : ℕ → Fate
  copy_fate k = fate w t (record n { copy = k })

  pub open_silent : (count : ℕ) → message w t n ≡ None → open_until count (marks_of w t n) ≡ 0
  open_silent count h =
      let off : is_spoken (marks_of w t n 0) ≡ false =
      ap is_spoken (mark_is w t (original n) ∙ ap (λ m. marked w 0 m (copy_fate 0)) h)
      ∙ unspoken w (copy_fate 0) in
      ap (λ (b : Bool). if b then least_copy (λ k. copy_open_until count (marks_of w t n k)) else 0)
      off

  pub open_spoken : (count : ℕ) (m : List Value) → message w t n ≡ Some m
      → (copy_fate 0 ≡ Unmade → ⊥)
      → open_until count (marks_of w t n) ≡ least_copy
      (λ k. copy_open_until count (marks_of w t n k))
  open_spoken count m h made =
      let on : is_spoken (marks_of w t n 0) ≡ true =
      ap is_spoken (mark_is w t (original n) ∙ ap (λ x. marked w 0 x (copy_fate 0)) h)
      ∙ spoken_made w m (copy_fate 0) made in
      ap (λ (b : Bool). if b then least_copy (λ k. copy_open_until count (marks_of w t n k)) else 0)
      on

  pub copy_open_is : (count k : ℕ) (m : List Value) → message w t n ≡ Some m
      → copy_open_until count (marks_of w t n k) ≡ unwrap_or
      (option_map (counted w) (let_in_of (copy_fate k))) count
  copy_open_is count k m h =
      ap (copy_open_until count) (mark_is w t (record n { copy = k })
      ∙ ap (λ x. marked w k x (copy_fate k)) h) ∙ copy_open w k count m (copy_fate k)
