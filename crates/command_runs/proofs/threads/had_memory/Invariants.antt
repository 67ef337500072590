use Rattle.std.proofs.Common.{ℕ, ◌<◌, ◌≢◌, get_or}
use Rattle.node_threads.specs.declared.ended.Ended.{Ended}
use Rattle.node_threads.specs.declared.ended.Ended.TheVariants.{NoMemory}
use Rattle.command_runs.proofs.threads.had_memory.Given as goal

abbrev pub invariant-loop-end : goal.invariant-loop-end
invariant-loop-end l = (k : ℕ) (d : Ended) → k < l.end-index → get_or l.ends k d ≢ NoMemory
