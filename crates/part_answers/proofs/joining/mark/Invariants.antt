use Rattle.std.proofs.Common.{take}
use Rattle.part_answers.specs.Tables.{IsTable}
use Rattle.part_answers.proofs.joining.mark.Given as goal

abbrev pub invariant-loop-part : goal.invariant-loop-part
invariant-loop-part l = IsTable l.count (take l.part-index l.parts) l.are_there.items
