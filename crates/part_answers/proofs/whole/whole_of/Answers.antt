use Rattle.std.proofs.Common.{arith}
use Rattle.std.proofs.lemmas.Grind.{common_steps}
use Rattle.std.proofs.lemmas.List.Elements.{All-push}
use Rattle.part_answers.specs.Wholes.{IsAnswerOf}
use Rattle.part_answers.proofs.whole.whole_of.Goals as goal

pub loop-answered-preserved : goal.loop-answered-preserved
loop-answered-preserved c = record {
  names = grind (arith, common_steps);
  right = rw c.in_ok-push.ensures.items
      (All-push (IsAnswerOf c.args.parts.now) c.loop-answered.whole.items _
      c.loop-answered.invariant.right c.outcome_of-outcome.ensures);
}
