use Rattle.std.proofs.Common.{length}
use Rattle.step_code.proofs.layout.+place_variables.Given as goal

abbrev pub decreases-place_variables : goal.decreases-place_variables
decreases-place_variables l = length l.variables.now
