use Rattle.std.proofs.Common.{◌≡◌, length}
use Rattle.schedule_text.specs.Outcome.{state_of}
use Rattle.schedule_text.proofs.Lines.{Comes}
use Rattle.schedule_text.proofs.line_reader.LineReader.read.Given as goal

abbrev pub invariant-loop-rest : goal.invariant-loop-rest
invariant-loop-rest l =
    (l.self.number ≡ l.fn.self.number)
    × Comes l.fn.kind l.fn.text l.rest l.fn.self.number l.number (state_of l.fn.self.draft)
    (state_of l.self.draft)

abbrev pub decreases-loop-rest : goal.decreases-loop-rest
decreases-loop-rest l = length l.rest
