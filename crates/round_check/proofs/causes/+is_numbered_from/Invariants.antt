use Rattle.std.proofs.Common.{length}
use Rattle.round_check.proofs.causes.+is_numbered_from.Given as goal

abbrev pub decreases-is_numbered_from : goal.decreases-is_numbered_from
decreases-is_numbered_from l = length l.blocks.now
