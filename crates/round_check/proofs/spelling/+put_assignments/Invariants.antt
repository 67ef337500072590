use Rattle.std.proofs.Common.{length}
use Rattle.round_check.proofs.spelling.+put_assignments.Given as goal

abbrev pub decreases-put_assignments : goal.decreases-put_assignments
decreases-put_assignments l = length l.assignments.now
