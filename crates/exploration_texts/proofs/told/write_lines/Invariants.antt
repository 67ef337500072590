use Rattle.std.proofs.Common.{take}
use Rattle.std.specs.Io.KnownBytes.{Appends}
use Rattle.exploration_texts.specs.Lines.{answers_text}
use Rattle.exploration_texts.proofs.told.write_lines.Given as goal

abbrev pub invariant-loop-one : goal.invariant-loop-one
invariant-loop-one g l =
    Appends (g.W.Write.contents l.initial.out) (g.W.Write.contents l.out)
    (answers_text (take l.one-index l.told))
