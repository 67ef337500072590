use Rattle.schedule_text.specs.Readers.{ahead}
use Rattle.schedule_text.proofs.Readers.{ReadsOn}
use Rattle.schedule_text.proofs.schedule_reader.ScheduleReader.drain.Given as goal

abbrev pub invariant-loop : goal.invariant-loop
invariant-loop g l = ReadsOn l.fn.self l.self

abbrev pub decreases-loop : goal.decreases-loop
decreases-loop g l = ahead l.self
