use Rattle.std.proofs.Common.{length, take}
use Rattle.std.specs.Io.KnownBytes.{Appends}
use Rattle.std.specs.List.{flat_map}
use Rattle.std.specs.Str.Lines.{lines}
use Rattle.answer_details.specs.Texts.{marked_line}
use Rattle.answer_details.proofs.writing.write_lines.Given as goal

abbrev pub invariant-loop-line : goal.invariant-loop-line
invariant-loop-line g l =
    Appends (g.W.Write.contents l.initial.out) (g.W.Write.contents l.out)
    (flat_map (marked_line l.mark) (take (length l.yielded) (lines l.text)))
