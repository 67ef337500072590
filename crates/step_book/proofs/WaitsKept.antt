-- Each event keeps the buffers.
use Rattle.std.proofs.Common.{◌≡◌, ◌≢◌, ℕ, ◌+◌, ◌<◌, ◌≤◌, true, false, List, [], ◌∷◌, ◌++◌}
use Rattle.std.proofs.Common.{length, get_or, set, sym, refl, ap, ◌∙◌, arith, ◌⊎◌, inl, inr}
use Rattle.std.proofs.lemmas.Bool.{and_left, and_right, cases_eq, eq-eqb, ne_eqb}
use Rattle.std.proofs.lemmas.List.{get_or-set_same, get_or-set_other, length-set, append-nil}
use Rattle.run_events.specs.declared.name.Name.{Name}
use Rattle.run_events.specs.declared.event.Event.{Event}
use Rattle.run_events.specs.declared.event.Event.TheVariants.{Step, Release}
use Rattle.step_book.specs.World.{World, nodes_of, IsPlan, is_receive}
use Rattle.step_book.specs.Fates.{is_take}
use Rattle.step_book.specs.Trace.{is_step, steps}
use Rattle.step_book.specs.History.{mark_of, arrival, arrived, buffer_of}
use Rattle.step_book.specs.Agreement.{Waits}
use Rattle.step_book.proofs.Plans.{receives_by_before}

pub idle_is_no_receive : (w : World) → IsPlan w → (x : ℕ) → w.start (w.rounds + 1) ≤ x
    → is_receive w x ≡ false
idle_is_no_receive w p x h = receives_by_before w p w.rounds (w.rounds + 1) x (omega arith) h

pub buffer_kept : (w : World) (i : ℕ) (e : Event) (t : List Event) → is_take w i e t ≡ false
    → arrived w i e t ≡ [] → buffer_of w i (e ∷ t) ≡ buffer_of w i t
unfolding buffer_of
buffer_kept w i e t h k = rw (h, k) (append-nil (buffer_of w i t))

pub buffer_emptied : (w : World) (i : ℕ) (e : Event) (t : List Event) → is_step i e ≡ true
    → is_receive w (steps i t) ≡ true → buffer_of w i (e ∷ t) ≡ []
unfolding buffer_of
buffer_emptied w i e t h k = rw (h, k) refl

pub buffer_grown : (w : World) (i : ℕ) (n : Name) (t : List Event) → n.to ≡ i
    → buffer_of w i (Release n ∷ t) ≡ buffer_of w i t ++ arrival n (mark_of w t n)
unfolding buffer_of
buffer_grown w i n t h = rw (eq-eqb n.to i h) refl

-- a step that receives nothing
pub waits_step_at : (w : World) (t : List Event) (k i : ℕ) → is_receive w (steps k t) ≡ false
    → (i ≡ k) ⊎ (i ≡ k → ⊥) → buffer_of w i (Step k ∷ t) ≡ buffer_of w i t
waits_step_at w t k i h (inl same) =
    buffer_kept w i (Step k) t (and_right _ _ (ap (λ z. is_receive w (steps z t)) same ∙ h)) refl
waits_step_at w t k i h (inr apart) =
    buffer_kept w i (Step k) t (and_left _ _ (ne_eqb k i (λ e. apart (sym e)))) refl

pub waits_step : (w : World) (t : List Event) (buffers : List (List Name)) (k : ℕ)
    → is_receive w (steps k t) ≡ false → Waits w t buffers → Waits w (Step k ∷ t) buffers
waits_step w t buffers k h a = record {
  sized = a.sized;
  held = λ i b. a.held i b ∙ sym (waits_step_at w t k i h (cases_eq i k));
}

waits_receive_at : (w : World) (t : List Event) (buffers : List (List Name)) (k i : ℕ)
    → k < length buffers → is_receive w (steps k t) ≡ true → get_or buffers i [] ≡ buffer_of w i t
    → (i ≡ k) ⊎ (i ≡ k → ⊥) → get_or (set buffers k []) i [] ≡ buffer_of w i (Step k ∷ t)
waits_receive_at w t buffers k i l h e (inl same) =
    rw same (get_or-set_same buffers k [] [] l
    ∙ sym (buffer_emptied w k (Step k) t (eq-eqb k k refl) h))
waits_receive_at w t buffers k i l h e (inr apart) =
    let ne : i ≢ k = apart in
    rw get_or-set_other (e
    ∙ sym (buffer_kept w i (Step k) t (and_left _ _ (ne_eqb k i (λ f. apart (sym f)))) refl))

pub waits_receive : (w : World) (t : List Event) (buffers : List (List Name)) (k : ℕ)
    → k < nodes_of w → is_receive w (steps k t) ≡ true → Waits w t buffers
    → Waits w (Step k ∷ t) (set buffers k [])
waits_receive w t buffers k l h a = record {
  sized = length-set buffers k [] ∙ a.sized;
  held = λ i b. waits_receive_at w t buffers k i (let n = a.sized in
      omega arith) h (a.held i b) (cases_eq i k);
}

pub arrived_other : (w : World) (t : List Event) (n : Name) (i : ℕ) → (i ≡ n.to → ⊥)
    → arrived w i (Release n) t ≡ []
arrived_other w t n i h = rw (ne_eqb n.to i (λ e. h (sym e))) refl

waits_release_at : (w : World) (t : List Event) (buffers : List (List Name)) (n : Name) (i : ℕ)
    → n.to < length buffers → get_or buffers n.to [] ≡ buffer_of w n.to t
    → get_or buffers i [] ≡ buffer_of w i t → (i ≡ n.to) ⊎ (i ≡ n.to → ⊥)
    → get_or (set buffers n.to (get_or buffers n.to [] ++ arrival n (mark_of w t n))) i []
    ≡ buffer_of w i (Release n ∷ t)
waits_release_at w t buffers n i l f e (inl same) =
    rw same (get_or-set_same buffers n.to _ [] l ∙ ap (λ z. z ++ arrival n (mark_of w t n)) f
    ∙ sym (buffer_grown w n.to n t refl))
waits_release_at w t buffers n i l f e (inr apart) =
    let ne : i ≢ n.to = apart in
    rw get_or-set_other (e ∙ sym (buffer_kept w i (Release n) t refl (arrived_other w t n i apart)))

pub waits_release : (w : World) (t : List Event) (buffers : List (List Name)) (n : Name)
    → n.to < nodes_of w → Waits w t buffers
    → Waits w (Release n ∷ t)
    (set buffers n.to (get_or buffers n.to [] ++ arrival n (mark_of w t n)))
waits_release w t buffers n l a = record {
  sized = length-set buffers n.to _ ∙ a.sized;
  held = λ i b. waits_release_at w t buffers n i (let m = a.sized in
      omega arith) (a.held n.to l) (a.held i b) (cases_eq i n.to);
}

pub waits_late_at : (w : World) (t : List Event) (n : Name) (i : ℕ) → arrival n (mark_of w t n) ≡ []
    → (i ≡ n.to) ⊎ (i ≡ n.to → ⊥) → buffer_of w i (Release n ∷ t) ≡ buffer_of w i t
waits_late_at w t n i h (inl same) = rw same (buffer_grown w n.to n t refl
    ∙ rw h (append-nil (buffer_of w n.to t)))
waits_late_at w t n i h (inr apart) =
    buffer_kept w i (Release n) t refl (arrived_other w t n i apart)

-- a release of what isn't in flight
pub waits_late : (w : World) (t : List Event) (buffers : List (List Name)) (n : Name)
    → arrival n (mark_of w t n) ≡ [] → Waits w t buffers → Waits w (Release n ∷ t) buffers
waits_late w t buffers n h a = record {
  sized = a.sized;
  held = λ i b. a.held i b ∙ sym (waits_late_at w t n i h (cases_eq i n.to));
}

-- an event of the network that lets nothing go
pub waits_quiet : (w : World) (t : List Event) (e : Event) (buffers : List (List Name))
    → ((i : ℕ) → is_take w i e t ≡ false) → ((i : ℕ) → arrived w i e t ≡ []) → Waits w t buffers
    → Waits w (e ∷ t) buffers
waits_quiet w t e buffers h k a = record {
  sized = a.sized;
  held = λ i b. a.held i b ∙ sym (buffer_kept w i e t (h i) (k i));
}
