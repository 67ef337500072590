use Rattle.step_journal.proofs.Named.{AreNamedTo}
use Rattle.step_journal.proofs.fitting.are_named.Given as goal

abbrev pub invariant-loop-place : goal.invariant-loop-place
invariant-loop-place g l = AreNamedTo l.book.log.rows l.frames.items l.names l.place
