use Rattle.schedule_text.specs.Readers.{ahead}
use Rattle.adversary.proofs.ReadRuns.{IsReadTo}
use Rattle.adversary.proofs.read.run_read.Given as goal

abbrev pub invariant-loop-next : goal.invariant-loop-next
invariant-loop-next g l = IsReadTo l.program l.setup l.fn.plan l.fn.reader l.driver l.reader

abbrev pub decreases-loop-next : goal.decreases-loop-next
decreases-loop-next g l = ahead l.reader
