use Rattle.std.proofs.Common.{length}
use Rattle.round_check.proofs.types.+variable_type.Given as goal

abbrev pub decreases-variable_type : goal.decreases-variable_type
decreases-variable_type l = length l.variables.now
