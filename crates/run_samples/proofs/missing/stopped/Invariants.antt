use Rattle.run_samples.specs.Samples.{AreStopped}
use Rattle.run_samples.proofs.missing.stopped.Given as goal

abbrev pub invariant-loop-from : goal.invariant-loop-from
invariant-loop-from l = AreStopped l.case l.round l.from l.row.bits
