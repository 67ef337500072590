use Rattle.std.proofs.Common.{length}
use Rattle.step_book.proofs.Taking.{IsTaking}
use Rattle.run_tests.proofs.journal.taking.take_all.Given as goal

abbrev pub invariant-loop-frame : goal.invariant-loop-frame
invariant-loop-frame l = IsTaking l.initial.node l.node l.frames

abbrev pub decreases-loop-frame : goal.decreases-loop-frame
decreases-loop-frame l = length l.frames
