use Rattle.std.proofs.Common.{◌≡◌, drop}
use Rattle.lockstep_runs.specs.Changes.{stop_or}
use Rattle.lockstep_runs.proofs.changes.last_stop.Given as goal

abbrev pub invariant-loop-stop : goal.invariant-loop-stop
invariant-loop-stop l =
    stop_or l.found (drop l.stop-index l.stops) l.node ≡ stop_or 0 l.fn.stops l.node
