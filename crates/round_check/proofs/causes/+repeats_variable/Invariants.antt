use Rattle.std.proofs.Common.{length}
use Rattle.round_check.proofs.causes.+repeats_variable.Given as goal

abbrev pub decreases-repeats_variable : goal.decreases-repeats_variable
decreases-repeats_variable l = length l.variables.now
