use Rattle.step_journal.specs.Fits.{AreEmpty}
use Rattle.step_journal.proofs.journal.no_buffers.Given as goal

abbrev pub invariant-loop-node : goal.invariant-loop-node
invariant-loop-node l = AreEmpty l.program l.setup l._node l.buffers.items
