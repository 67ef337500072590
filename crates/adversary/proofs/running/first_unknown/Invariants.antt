use Rattle.std.proofs.Common.{ℕ, ◌<◌, get_or}
use Rattle.run_events.specs.declared.event.Event.{Event}
use Rattle.adversary.specs.Driving.{IsKnown}
use Rattle.adversary.proofs.running.first_unknown.Given as goal

abbrev pub invariant-loop-position : goal.invariant-loop-position
invariant-loop-position l = (k : ℕ) (d : Event) → k < l.position
    → IsKnown l.setup (get_or l.events k d)
