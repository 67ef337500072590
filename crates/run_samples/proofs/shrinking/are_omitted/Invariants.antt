use Rattle.std.proofs.Common.{take}
use Rattle.run_samples.specs.Samples.{Covers}
use Rattle.run_samples.proofs.shrinking.are_omitted.Given as goal

abbrev pub invariant-loop-omission : goal.invariant-loop-omission
invariant-loop-omission l = Covers l.table (take l.omission-index l.lost)
