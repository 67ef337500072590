-- The steps of nodes by their places in a trace, and by the moments before them.
use Rattle.std.proofs.Common.{◌≡◌, ℕ, ◌<◌, List, length, Some, sym, ap, ◌∙◌, arith}
use Rattle.std.specs.Prelude.{reverse}
use Rattle.std.specs.List.{slice_get}
use Rattle.std.proofs.lemmas.List.{reverse-reverse}
use Rattle.run_events.specs.declared.event.Event.{Event}
use Rattle.run_events.specs.declared.event.Event.TheVariants.{Step}
use Rattle.step_book.specs.Places.{steps_before}
use Rattle.step_book.specs.Trace.{steps}
use Rattle.step_book.proofs.Moments.{At, at_place, at_same, at_steps, at_within, place_at}

-- a step of node i stands at this place, and the moment is what went before it
pub record Standing (trace : List Event) (i place : ℕ) : Type 0 where
  pub moment : List Event
  pub stands : At moment (Step i) (reverse trace)
  pub long : length moment ≡ place
  pub count : (j : ℕ) → steps_before trace j place ≡ steps j moment

module _ (trace : List Event) where
  own : reverse (reverse trace) ≡ trace
  own = reverse-reverse trace

  moment_count : (i j : ℕ) (m : List Event) → At m (Step i) (reverse trace)
      → steps_before trace j (length m) ≡ steps j m
  moment_count i j m h = ap (λ z. steps_before z j (length m)) (sym own)
      ∙ at_steps j m (Step i) (reverse trace) h

  pub standing : (i place : ℕ) → slice_get trace place ≡ Some (Step i) → Standing trace i place
  standing i place h =
      let found = place_at (Step i) (reverse trace) place (ap (λ z. slice_get z place) own ∙ h) in
      record {
        moment = found.0;
        stands = found.1;
        long = found.2;
        count = λ j. ap (steps_before trace j) (sym found.2) ∙ moment_count i j found.0 found.1;
      }

  -- the event of a moment stands at the place that is its length
  pub there_at : (e : Event) (place : ℕ) (m : List Event) → At m e (reverse trace)
      → length m ≡ place → slice_get trace place ≡ Some e
  there_at e place m h long = ap (slice_get trace) (sym long)
      ∙ ap (λ z. slice_get z (length m)) (sym own) ∙ at_place m e (reverse trace) h

  -- one place has one moment
  pub same_moment : (i place : ℕ) (s : Standing trace i place) (e : Event) (m : List Event)
      → At m e (reverse trace) → length m ≡ place → s.moment ≡ m
  same_moment i place s e m h long =
      let same = s.long in
      (at_same m e s.moment (Step i) (reverse trace) h s.stands (omega arith)).0

  -- an earlier step stands within a later moment
  pub within : (i place : ℕ) (s : Standing trace i place) (e : Event) (m : List Event)
      → At m e (reverse trace) → place < length m → At s.moment (Step i) m
  within i place s e m h l =
      let long = s.long in
      at_within m e s.moment (Step i) (reverse trace) h s.stands (omega arith)
