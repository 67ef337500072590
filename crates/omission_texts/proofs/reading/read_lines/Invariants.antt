use Rattle.std.proofs.Common.{length}
use Rattle.std.specs.Str.Lines.{lines}
use Rattle.omission_texts.proofs.Lines.{IsReadTo}
use Rattle.omission_texts.proofs.reading.read_lines.Given as goal

abbrev pub invariant-loop-line : goal.invariant-loop-line
invariant-loop-line l = IsReadTo (lines l.text) (length l.yielded) l.said.items l.number
