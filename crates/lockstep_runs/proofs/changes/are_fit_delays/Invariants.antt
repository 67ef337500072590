use Rattle.std.proofs.Common.{ℕ, ◌<◌, get_or}
use Rattle.lockstep_runs.specs.Changes.{IsFitDelay}
use Rattle.lockstep_runs.specs.declared.changes.MessageDelay.{MessageDelay}
use Rattle.lockstep_runs.proofs.changes.are_fit_delays.Given as goal

abbrev pub invariant-loop-delay : goal.invariant-loop-delay
invariant-loop-delay l =
    (k : ℕ) (d : MessageDelay) → k < l.delay-index → IsFitDelay l.setup (get_or l.delays k d)
