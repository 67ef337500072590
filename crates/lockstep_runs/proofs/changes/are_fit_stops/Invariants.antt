use Rattle.std.proofs.Common.{ℕ, ◌<◌, get_or}
use Rattle.schedule_text.specs.declared.pace.Stop.{Stop}
use Rattle.lockstep_runs.specs.Changes.{IsFitStop}
use Rattle.lockstep_runs.proofs.changes.are_fit_stops.Given as goal

abbrev pub invariant-loop-stop : goal.invariant-loop-stop
invariant-loop-stop l =
    (k : ℕ) (d : Stop) → k < l.stop-index → IsFitStop l.setup l.correct.bits (get_or l.stops k d)
