use Rattle.std.proofs.Common.{◌≡◌, ℕ, ◌<◌, get_or}
use Rattle.run_events.specs.declared.in_flight.InFlight.{InFlight}
use Rattle.policies.proofs.script.place_of.Given as goal

abbrev pub invariant-loop-place : goal.invariant-loop-place
invariant-loop-place l = (k : ℕ) (d : InFlight) → k < l.place
    → ¬ ((get_or l.flight k d).name ≡ l.name)
