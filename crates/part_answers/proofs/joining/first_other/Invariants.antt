use Rattle.std.proofs.Common.{All, take}
use Rattle.part_answers.specs.Wholes.{IsAlike}
use Rattle.part_answers.proofs.joining.first_other.Given as goal

abbrev pub invariant-loop-place : goal.invariant-loop-place
invariant-loop-place l = All (IsAlike l.first) (take l.place l.parts)
