use Rattle.std.proofs.Common.{ℕ, ◌<◌, get_or}
use Rattle.schedule_text.specs.declared.pace.Stop.{Stop}
use Rattle.node_threads.proofs.stops.are_stops.Given as goal

abbrev pub invariant-loop-stop : goal.invariant-loop-stop
invariant-loop-stop l = (k : ℕ) (d : Stop) → k < l.stop-index → (get_or l.stops k d).node < l.nodes
