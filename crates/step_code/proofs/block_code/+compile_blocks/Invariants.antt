use Rattle.std.proofs.Common.{length}
use Rattle.step_code.proofs.block_code.+compile_blocks.Given as goal

abbrev pub decreases-compile_blocks : goal.decreases-compile_blocks
decreases-compile_blocks l = length l.blocks.now
