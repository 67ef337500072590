use Rattle.std.proofs.Common.{◌≡◌}
use Rattle.run_samples.proofs.shrinking.shrink_rows.Given as goal

abbrev pub invariant-loop-pass : goal.invariant-loop-pass
invariant-loop-pass l = l.machine ≡ l.program
