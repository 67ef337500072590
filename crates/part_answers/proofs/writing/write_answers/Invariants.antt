use Rattle.std.proofs.Common.{take}
use Rattle.std.specs.Io.KnownBytes.{Appends}
use Rattle.part_answers.specs.Answers.{answers_text}
use Rattle.part_answers.proofs.writing.write_answers.Given as goal

abbrev pub invariant-loop-answered : goal.invariant-loop-answered
invariant-loop-answered g l =
    Appends (g.W.Write.contents l.initial.out) (g.W.Write.contents l.out)
    (answers_text (take l.answered-index l.answers))
