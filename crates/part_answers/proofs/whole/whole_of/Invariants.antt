use Rattle.part_answers.proofs.WholeLemmas.{IsWholeTo}
use Rattle.part_answers.proofs.whole.whole_of.Given as goal

abbrev pub invariant-loop-answered : goal.invariant-loop-answered
invariant-loop-answered l = IsWholeTo l.parts l.answers l.answered-index l.whole.items
