use Rattle.std.proofs.Common.{length}
use Rattle.round_check.proofs.spelling.+put_blocks.Given as goal

abbrev pub decreases-put_blocks : goal.decreases-put_blocks
decreases-put_blocks l = length l.blocks.now
