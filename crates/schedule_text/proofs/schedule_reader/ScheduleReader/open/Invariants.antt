use Rattle.std.proofs.Common.{◌≡◌, false}
use Rattle.schedule_text.specs.Readers.{ahead}
use Rattle.schedule_text.proofs.Readers.{AreAhead}
use Rattle.schedule_text.proofs.schedule_reader.ScheduleReader.open.Given as goal

abbrev pub invariant-loop-reader : goal.invariant-loop-reader
invariant-loop-reader g l =
    (l.reader.is_ended ≡ false) × AreAhead (g.S.TextSource.left l.fn.source) l.reader

abbrev pub decreases-loop-reader : goal.decreases-loop-reader
decreases-loop-reader g l = ahead l.reader
