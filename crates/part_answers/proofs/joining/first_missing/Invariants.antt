use Rattle.std.proofs.Common.{◌≡◌}
use Rattle.part_answers.specs.Tables.{AreMarked}
use Rattle.part_answers.proofs.joining.first_missing.Given as goal

abbrev pub invariant-loop-is_there : goal.invariant-loop-is_there
invariant-loop-is_there l =
    (l.number ≡ l.is_there-index) × AreMarked l.are_there l.is_there-index
