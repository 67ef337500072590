use Rattle.std.proofs.Common.{◌≡◌}
use Rattle.run_samples.proofs.shrinking.leave_out_rows.Given as goal

abbrev pub invariant-loop-halving : goal.invariant-loop-halving
invariant-loop-halving l = l.machine ≡ l.program

abbrev pub invariant-loop-first : goal.invariant-loop-first
invariant-loop-first l = l.machine ≡ l.program
