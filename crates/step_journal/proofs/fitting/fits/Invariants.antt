use Rattle.step_journal.proofs.Named.{FitTo}
use Rattle.step_journal.proofs.fitting.fits.Given as goal

abbrev pub invariant-loop-node : goal.invariant-loop-node
invariant-loop-node g l = FitTo (g.P.Plan.start l.book.plan) l.book.log l.buffers l.node
