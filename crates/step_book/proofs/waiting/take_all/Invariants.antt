use Rattle.std.proofs.Common.{length}
use Rattle.step_book.proofs.Taking.{IsTakingAll}
use Rattle.step_book.proofs.waiting.take_all.Given as goal

abbrev pub invariant-loop-frame : goal.invariant-loop-frame
invariant-loop-frame l = IsTakingAll l.initial.node l.node l.fn.frames.items l.frames

abbrev pub decreases-loop-frame : goal.decreases-loop-frame
decreases-loop-frame l = length l.frames
