-- How step counts change as a history grows by one event.
use Rattle.std.proofs.Common.{◌≡◌, ℕ, suc, ◌+◌, ◌≤◌, Bool, true, false, List, [], ◌∷◌, length}
use Rattle.std.proofs.Common.{arith, ◌⊎◌, inl, inr}
use Rattle.std.proofs.lemmas.Bool.{cases_Bool, cond_both}
use Rattle.run_events.specs.declared.event.Event.{Event}
use Rattle.step_book.specs.Trace.{is_step, steps}

pub steps_at : (i : ℕ) (e : Event) (t : List Event) → is_step i e ≡ true
    → steps i (e ∷ t) ≡ steps i t + 1
unfolding steps
steps_at i e t h = rw h

pub steps_other : (i : ℕ) (e : Event) (t : List Event) → is_step i e ≡ false
    → steps i (e ∷ t) ≡ steps i t
unfolding steps
steps_other i e t h = rw h

pub steps_grow_by : (i : ℕ) (e : Event) (t : List Event)
    → (is_step i e ≡ true) ⊎ (is_step i e ≡ false) → steps i t ≤ steps i (e ∷ t)
steps_grow_by i e t (inl h) = rw (steps_at i e t h) (omega arith)
steps_grow_by i e t (inr h) = rw (steps_other i e t h) (omega arith)

pub steps_grow : (i : ℕ) (e : Event) (t : List Event) → steps i t ≤ steps i (e ∷ t)
steps_grow i e t = steps_grow_by i e t (cases_Bool (is_step i e))

-- an event is one step at most
pub steps_more : (i : ℕ) (e : Event) (t : List Event) (b : Bool) → is_step i e ≡ b
    → steps i (e ∷ t) ≤ steps i t + 1
steps_more i e t true h = let n = steps_at i e t h in omega arith
steps_more i e t false h = let n = steps_other i e t h in omega arith

pub steps_le : (i : ℕ) (t : List Event) → steps i t ≤ length t
unfolding steps
steps_le i [] = omega arith
steps_le i (e ∷ t) = cond_both (is_step i e) (steps i t + 1) (steps i t) (λ n. n ≤ suc (length t))
    (λ h. omega (arith, steps_le i t)) (λ h. omega (arith, steps_le i t))
