use Rattle.std.proofs.Common.{length}
use Rattle.round_check.proofs.causes.+first_input.Given as goal

abbrev pub decreases-first_input : goal.decreases-first_input
decreases-first_input l = length l.variables.now
