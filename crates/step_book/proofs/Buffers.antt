-- A buffer has each copy that was released and not taken, once.
use Rattle.std.proofs.Common.{◌≡◌, ℕ, zero, suc, ◌+◌, ◌==◌, ◌<◌, ◌≤◌, Bool, true, false, ◌&&◌, List}
use Rattle.std.proofs.Common.{[], ◌∷◌, ◌++◌, Option, Some, None, sym, refl, ap, if◌then◌else◌, ◌∙◌}
use Rattle.std.proofs.Common.{arith, ◌⊎◌, inl, inr, is_some}
use Rattle.std.specs.List.{count_by}
use Rattle.std.proofs.lemmas.Bool.{and_left, and_parts, cases_eq, ne_eqb}
use Rattle.std.proofs.lemmas.Grind.{common_steps}
use Rattle.round_lang.specs.declared.value.Value.{Value}
use Rattle.run_events.specs.declared.name.Name.{Name}
use Rattle.run_events.specs.declared.event.Event.{Event}
use Rattle.run_events.specs.declared.event.Event.TheVariants.{Step, Release, Drop, Copy}
use Rattle.run_events.specs.Names.{original}
use Rattle.step_book.specs.declared.mark.Mark.{Mark}
use Rattle.step_book.specs.declared.mark.Mark.TheVariants as mark
use Rattle.step_book.specs.Fates.{Fate, Unmade, Moving, Waiting, Taken, Lost, after, fate, is_take}
use Rattle.step_book.specs.Fates.{is_waiting, makes}
use Rattle.step_book.specs.History.{arrival, buffer_of, hushed, is_buffered, mark_of}
use Rattle.step_book.specs.History.{marked, message}
use Rattle.step_book.specs.Trace.{is_drop, is_name, is_release, is_step, steps}
use Rattle.step_book.specs.World.{IsPlan, World, is_receive}
use Rattle.step_book.proofs.Fates.{fate_first, fate_next}
use Rattle.step_book.proofs.Kept.{made_same, mark_is}
use Rattle.step_book.proofs.Names.{one_name, own_name}
use Rattle.step_book.proofs.WaitsKept.{buffer_emptied, buffer_grown, buffer_kept}

-- ---- one copy, as an event comes

waits_made : (b : Bool) → is_waiting (if b then Moving else Unmade) ≡ false
waits_made true = refl
waits_made false = refl

waits_left : (x : ℕ) (a b : Bool) → a ≡ false
    → is_waiting (if a then Waiting x else if b then Lost else Moving) ≡ false
waits_left x a true h = rw h refl
waits_left x a false h = rw h refl

waits_taken : (x c : ℕ) (b : Bool) → b ≡ false
    → is_waiting (if b then Taken x c else Waiting x) ≡ true
waits_taken x c b h = rw h refl

-- nothing of it is let go or taken
waits_same : (w : World) (n : Name) (e : Event) (t : List Event) (first f : Fate)
    → is_take w n.to e t ≡ false → is_release n e ≡ false
    → is_waiting (after w n e t first f) ≡ is_waiting f
waits_same w n e t first Unmade h k = waits_made (makes w n e t first)
waits_same w n e t first Moving h k = waits_left (steps n.to t) (is_release n e) (is_drop n e) k
waits_same w n e t first (Waiting x) h k = waits_taken x (steps n.to t) (is_take w n.to e t) h
waits_same w n e t first (Taken x c) h k = refl
waits_same w n e t first Lost h k = refl

step_no_release : (i : ℕ) (n : Name) (e : Event) → is_step i e ≡ true → is_release n e ≡ false
step_no_release i n (Step k) h = refl
step_no_release i n (Release m) h = cc
step_no_release i n (Drop m) h = refl
step_no_release i n (Copy m) h = refl

-- its receiver takes what waits
waits_none : (w : World) (n : Name) (e : Event) (t : List Event) (first f : Fate)
    → is_take w n.to e t ≡ true → is_release n e ≡ false
    → is_waiting (after w n e t first f) ≡ false
waits_none w n e t first Unmade h k = waits_made (makes w n e t first)
waits_none w n e t first Moving h k = waits_left (steps n.to t) (is_release n e) (is_drop n e) k
waits_none w n e t first (Waiting x) h k = rw h refl
waits_none w n e t first (Taken x c) h k = refl
waits_none w n e t first Lost h k = refl

waiting_made : (f : Fate) → is_waiting f ≡ true → f ≡ Unmade → ⊥
waiting_made Unmade h e = cc
waiting_made Moving h e = cc
waiting_made (Waiting x) h e = cc
waiting_made (Taken x c) h e = cc
waiting_made Lost h e = cc

said_same : (b c : Bool) (m k : Option (List Value)) → b ≡ c → (b ≡ true → m ≡ k)
    → (b && is_some m) ≡ (c && is_some k)
said_same true c m k e h = rw (h refl, sym e) refl
said_same false c m k e h = rw (sym e) refl

module _ (w : World) (p : IsPlan w) (e : Event) (t : List Event) (n : Name) (z : 0 < n.round)
    (l : n.round ≤ w.rounds) where
  abbrev now : Fate
  now = after w n e t (fate w t (original n)) (fate w t n)

  buffered_is : is_buffered w (e ∷ t) n ≡ (is_waiting now && is_some (message w t n))
  buffered_is =
      said_same (is_waiting (fate w (e ∷ t) n)) (is_waiting now) (message w (e ∷ t) n)
      (message w t n)
      (ap is_waiting (fate_next w e t n)) (λ on. made_same w p e t n z l (waiting_made _ on))

  buffered_same : is_take w n.to e t ≡ false → is_release n e ≡ false
      → is_buffered w (e ∷ t) n ≡ is_buffered w t n
  buffered_same h k = buffered_is
      ∙ ap (λ b. b && is_some (message w t n))
      (waits_same w n e t (fate w t (original n)) (fate w t n) h k)

  buffered_none : is_take w n.to e t ≡ true → is_buffered w (e ∷ t) n ≡ false
  buffered_none h =
      let both : (is_step n.to e ≡ true) × (is_receive w (steps n.to t) ≡ true) = and_parts _ _ h in
      buffered_is ∙ and_left _ _
      (waits_none w n e t (fate w t (original n)) (fate w t n) h
      (step_no_release n.to n e both.0))

-- ---- the count

abbrev pub as_count : Bool → ℕ
as_count b = if b then 1 else 0

other_arrival : (n m : Name) (s : Mark) → is_name n m ≡ false
    → count_by (is_name n) (arrival m s) ≡ 0
other_arrival n m mark.Unsent h = refl
other_arrival n m mark.Silent h = refl
other_arrival n m (mark.Released x) h = refl
other_arrival n m mark.Lost h = refl
other_arrival n m mark.Flying h = rw h refl

hushed_arrival : (n : Name) (k : ℕ) → count_by (is_name n) (arrival n (hushed k)) ≡ 0
hushed_arrival n zero = refl
hushed_arrival n (suc k) = refl

-- a release of it
arrives : (w : World) (n : Name) (t : List Event) (first f : Fate) (m : Option (List Value))
    → is_name n n ≡ true → makes w n (Release n) t first ≡ false
    → as_count (is_waiting f && is_some m) + count_by (is_name n) (arrival n (marked w n.copy m f))
    ≡ as_count (is_waiting (after w n (Release n) t first f) && is_some m)
arrives w n t first Unmade m h k = rw k refl
arrives w n t first Moving None h k = rw (h, hushed_arrival n n.copy) refl
arrives w n t first Moving (Some m) h k = rw h refl
arrives w n t first (Waiting x) None h k = rw (hushed_arrival n n.copy) refl
arrives w n t first (Waiting x) (Some m) h k = refl
arrives w n t first (Taken x c) None h k = rw (hushed_arrival n n.copy) refl
arrives w n t first (Taken x c) (Some m) h k = refl
arrives w n t first Lost None h k = rw (hushed_arrival n n.copy) refl
arrives w n t first Lost (Some m) h k = refl

release_makes : (w : World) (n m : Name) (t : List Event) (first : Fate) (b : Bool)
    → (n.copy == 0) ≡ b → makes w n (Release m) t first ≡ false
release_makes w n m t first true h = rw h refl
release_makes w n m t first false h = rw h refl

count_append : {X : Type 0} (p : X → Bool) (xs ys : List X)
    → count_by p (xs ++ ys) ≡ count_by p xs + count_by p ys
count_append p xs ys = grind (arith, common_steps)

count_other : (w : World) (n m : Name) (t : List Event) → is_name n m ≡ false
    → (n.to ≡ m.to) ⊎ (n.to ≡ m.to → ⊥)
    → count_by (is_name n) (buffer_of w n.to (Release m ∷ t))
    ≡ count_by (is_name n) (buffer_of w n.to t)
count_other w n m t k (inl same) =
    ap (count_by (is_name n)) (buffer_grown w n.to m t (sym same))
    ∙ count_append (is_name n) (buffer_of w n.to t) (arrival m (mark_of w t m))
    ∙ (let none = other_arrival n m (mark_of w t m) k in omega arith)
count_other w n m t k (inr apart) =
    ap (count_by (is_name n)) (buffer_kept w n.to (Release m) t refl
    (rw (ne_eqb m.to n.to (λ e. apart (sym e))) refl))

count_own : (w : World) → IsPlan w → (n : Name) (t : List Event) → 0 < n.round → n.round ≤ w.rounds
    → count_by (is_name n) (buffer_of w n.to t) ≡ as_count (is_buffered w t n)
    → count_by (is_name n) (buffer_of w n.to (Release n ∷ t))
    ≡ as_count (is_buffered w (Release n ∷ t) n)
count_own w p n t z l ih =
    ap (count_by (is_name n)) (buffer_grown w n.to n t refl)
    ∙ count_append (is_name n) (buffer_of w n.to t) (arrival n (mark_of w t n))
    ∙ ap (λ x. x + count_by (is_name n) (arrival n (mark_of w t n))) ih
    ∙ ap (λ x. as_count (is_buffered w t n) + count_by (is_name n) (arrival n x)) (mark_is w t n)
    ∙ arrives w n t (fate w t (original n)) (fate w t n) (message w t n) (own_name n)
    (release_makes w n n t (fate w t (original n)) (n.copy == 0) refl)
    ∙ sym (ap as_count (buffered_is w p (Release n) t n z l))

count_event : (w : World) → IsPlan w → (e : Event) (t : List Event) (n : Name) → 0 < n.round
    → n.round ≤ w.rounds → count_by (is_name n) (buffer_of w n.to t) ≡ as_count (is_buffered w t n)
    → (x : Bool) → is_take w n.to e t ≡ x → (y : Bool) → is_release n e ≡ y
    → count_by (is_name n) (buffer_of w n.to (e ∷ t)) ≡ as_count (is_buffered w (e ∷ t) n)
count_event w p e t n z l ih true h y k =
    let both : (is_step n.to e ≡ true) × (is_receive w (steps n.to t) ≡ true) = and_parts _ _ h in
    ap (count_by (is_name n)) (buffer_emptied w n.to e t both.0 both.1)
    ∙ sym (ap as_count (buffered_none w p e t n z l h))
count_event w p (Step i) t n z l ih false h y k =
    ap (count_by (is_name n)) (buffer_kept w n.to (Step i) t h refl) ∙ ih
    ∙ sym (ap as_count (buffered_same w p (Step i) t n z l h refl))
count_event w p (Release m) t n z l ih false h false k =
    count_other w n m t k (cases_eq n.to m.to) ∙ ih
    ∙ sym (ap as_count (buffered_same w p (Release m) t n z l h k))
count_event w p (Release m) t n z l ih false h true k =
    let same = one_name n m k in
    ap (λ x. count_by (is_name n) (buffer_of w n.to (Release x ∷ t))) same
    ∙ count_own w p n t z l ih
    ∙ ap (λ x. as_count (is_buffered w (Release x ∷ t) n)) (sym same)
count_event w p (Drop m) t n z l ih false h y k =
    ap (count_by (is_name n)) (buffer_kept w n.to (Drop m) t h refl) ∙ ih
    ∙ sym (ap as_count (buffered_same w p (Drop m) t n z l h refl))
count_event w p (Copy m) t n z l ih false h y k =
    ap (count_by (is_name n)) (buffer_kept w n.to (Copy m) t h refl) ∙ ih
    ∙ sym (ap as_count (buffered_same w p (Copy m) t n z l h refl))

-- the buffer has each copy that stands in it once, and no other
pub buffer_counts : (w : World) → IsPlan w → (t : List Event) (n : Name) → 0 < n.round
    → n.round ≤ w.rounds → count_by (is_name n) (buffer_of w n.to t) ≡ as_count (is_buffered w t n)
unfolding buffer_of
buffer_counts w p [] n z l = rw (fate_first w n) refl
buffer_counts w p (e ∷ t) n z l = count_event w p e t n z l
    (buffer_counts w p t n z l) _ refl _ refl
