-- Places in a trace, and how many steps a node has taken before them.
use Rattle.std.proofs.Common.{◌≡◌, ℕ, suc, ◌<◌, ◌≤◌, true, List, Some, sym, subst, ap}
use Rattle.std.proofs.Common.{◌∙◌, arith}
use Rattle.std.specs.Prelude.{reverse}
use Rattle.std.specs.List.{slice_get}
use Rattle.std.proofs.lemmas.Bool.{and_from, cases_lt, le-leb, lt-ltb}
use Rattle.std.proofs.lemmas.List.{reverse-reverse}
use Rattle.run_events.specs.declared.event.Event.{Event}
use Rattle.run_events.specs.declared.event.Event.TheVariants.{Step}
use Rattle.run_events.specs.declared.name.Name.{Name}
use Rattle.step_book.specs.Places.{IsMadeAt, IsReceiveOf, IsSlotAt, IsStepAt, steps_before}
use Rattle.step_book.specs.Trace.{is_step, steps}
use Rattle.step_book.specs.World.{World, is_receive}
use Rattle.step_book.proofs.Moments.{At, at_steps, at_within, place_at, step_rises}
use Rattle.step_book.proofs.Placed.{made_one, slot_one}
use Rattle.step_book.proofs.Plans.{receives_by_in}
use Rattle.omission_explainer.proofs.Moments.{steps_up_to}
use Rattle.omission_reasons.specs.Listing.{places_where}
use Rattle.omission_reasons.proofs.Listed.{step_listed}

-- ---- over a history

-- between two events a node takes as many steps or more
before_le : (t : List Event) (i p k : ℕ) (d e : Event) → slice_get (reverse t) p ≡ Some d
    → slice_get (reverse t) k ≡ Some e → p < k
    → steps_before (reverse t) i p ≤ steps_before (reverse t) i k
before_le t i p k d e a b l =
    let x = place_at d t p a in
    let y = place_at e t k b in
    let px = x.2 in
    let ky = y.2 in
    let within : At x.0 d y.0 = at_within y.0 e x.0 d t y.1 x.1 (omega arith) in
    let up = steps_up_to i d x.0 y.0 within in
    let first : steps_before (reverse t) i p ≡ steps i x.0 =
    ap (steps_before (reverse t) i) (sym x.2) ∙ at_steps i x.0 d t x.1 in
    let second : steps_before (reverse t) i k ≡ steps i y.0 =
    ap (steps_before (reverse t) i) (sym y.2) ∙ at_steps i y.0 e t y.1 in
    omega arith

-- and after a step of the node more
before_lt : (t : List Event) (i p k : ℕ) (e : Event) → slice_get (reverse t) p ≡ Some (Step i)
    → slice_get (reverse t) k ≡ Some e → p < k
    → steps_before (reverse t) i p < steps_before (reverse t) i k
before_lt t i p k e a b l =
    let x = place_at (Step i) t p a in
    let y = place_at e t k b in
    let px = x.2 in
    let ky = y.2 in
    let within : At x.0 (Step i) y.0 =
    at_within y.0 e x.0 (Step i) t y.1 x.1 (omega arith) in
    let up = step_rises i x.0 y.0 within in
    let first : steps_before (reverse t) i p ≡ steps i x.0 =
    ap (steps_before (reverse t) i) (sym x.2) ∙ at_steps i x.0 (Step i) t x.1 in
    let second : steps_before (reverse t) i k ≡ steps i y.0 =
    ap (steps_before (reverse t) i) (sym y.2) ∙ at_steps i y.0 e t y.1 in
    omega arith

taken_all : (t : List Event) (i p : ℕ) → slice_get (reverse t) p ≡ Some (Step i)
    → steps_before (reverse t) i p < steps i t
taken_all t i p a =
    let x = place_at (Step i) t p a in
    let up = step_rises i x.0 t x.1 in
    let first : steps_before (reverse t) i p ≡ steps i x.0 =
    ap (steps_before (reverse t) i) (sym x.2) ∙ at_steps i x.0 (Step i) t x.1 in
    omega arith

-- ---- over a trace

module _ (trace : List Event) where
  own : reverse (reverse trace) ≡ trace
  own = reverse-reverse trace

  pub steps_le : (i p k : ℕ) (d e : Event) → slice_get trace p ≡ Some d
      → slice_get trace k ≡ Some e → p < k → steps_before trace i p ≤ steps_before trace i k
  steps_le i p k d e = subst (λ z. slice_get z p ≡ Some d → slice_get z k ≡ Some e → p < k
      → steps_before z i p ≤ steps_before z i k) own (before_le (reverse trace) i p k d e)

  pub steps_lt : (i p k : ℕ) (e : Event) → slice_get trace p ≡ Some (Step i)
      → slice_get trace k ≡ Some e → p < k → steps_before trace i p < steps_before trace i k
  steps_lt i p k e = subst (λ z. slice_get z p ≡ Some (Step i) → slice_get z k ≡ Some e → p < k
      → steps_before z i p < steps_before z i k) own (before_lt (reverse trace) i p k e)

  pub steps_all : (i p : ℕ) → slice_get trace p ≡ Some (Step i)
      → steps_before trace i p < steps i (reverse trace)
  steps_all i p = subst (λ z. slice_get z p ≡ Some (Step i)
      → steps_before z i p < steps i (reverse trace)) own (taken_all (reverse trace) i p)

  pub step_placed : (i c p : ℕ) → slice_get (places_where (is_step i) (reverse trace)) c ≡ Some p
      → IsStepAt trace i c p
  step_placed i c p h = subst (λ z. IsStepAt z i c p) own (step_listed i (reverse trace) c p h)

  pub one_slot : (w : World) (n : Name) (p q : ℕ) → IsSlotAt w trace n p → IsSlotAt w trace n q
      → p ≡ q
  one_slot w n p q = subst (λ z. IsSlotAt w z n p → IsSlotAt w z n q → p ≡ q) own
      (slot_one w (reverse trace) n p q)

  pub one_made : (w : World) (n : Name) (p q : ℕ) → IsMadeAt w trace n p → IsMadeAt w trace n q
      → p ≡ q
  one_made w n p q = subst (λ z. IsMadeAt w z n p → IsMadeAt w z n q → p ≡ q) own
      (made_one w (reverse trace) n p q)

-- a receive of a round is a receive
pub is_receive_of : (w : World) (r x : ℕ) → IsReceiveOf w r x → is_receive w x ≡ true
is_receive_of w r x h =
    receives_by_in w w.rounds r x h.first h.last (cases_lt w.rounds (suc r))
    (and_from _ _ (le-leb _ _ h.after_sends) (lt-ltb _ _ h.before_end))
