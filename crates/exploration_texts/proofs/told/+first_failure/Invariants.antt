use Rattle.std.proofs.Common.{length}
use Rattle.exploration_texts.proofs.told.+first_failure.Given as goal

abbrev pub decreases-first_failure : goal.decreases-first_failure
decreases-first_failure l = length l.told.now
