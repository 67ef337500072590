use Rattle.std.proofs.Common.{◌≡◌}
use Rattle.run_samples.proofs.shrinking.leave_out_single.Given as goal

abbrev pub invariant-loop-first : goal.invariant-loop-first
invariant-loop-first l = l.machine ≡ l.program

abbrev pub invariant-loop-from : goal.invariant-loop-from
invariant-loop-from l = l.machine ≡ l.program
