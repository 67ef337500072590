use Rattle.std.proofs.Common.{◌≡◌, drop}
use Rattle.node_threads.specs.Stops.{stop_of, stop_or}
use Rattle.node_threads.proofs.stops.stop_of.Given as goal

abbrev pub invariant-loop-stop : goal.invariant-loop-stop
invariant-loop-stop l = stop_or l.found (drop l.stop-index l.stops) l.me ≡ stop_of l.fn.stops l.me
