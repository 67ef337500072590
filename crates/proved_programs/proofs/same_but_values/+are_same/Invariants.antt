use Rattle.std.proofs.Common.{length}
use Rattle.proved_programs.proofs.same_but_values.+are_same.Given as goal

abbrev pub decreases-are_same : goal.decreases-are_same
decreases-are_same g l = length l.one.now
