use Rattle.part_answers.specs.Tables.{IsNo}
use Rattle.part_answers.specs.Wholes.{IsLeast}
use Rattle.part_answers.proofs.LeastLemmas.{Before}
use Rattle.part_answers.proofs.whole.failure_of.Given as goal

abbrev pub invariant-loop-answered : goal.invariant-loop-answered
invariant-loop-answered l = IsLeast (Before (IsNo l.property) l.answers l.answered-index) l.least
