use Rattle.std.proofs.Common.{List, subst}
use Rattle.part_answers.specs.Wholes.{IsFailureIn, IsLeast}
use Rattle.part_answers.specs.declared.answered.Answered.{Answered}
use Rattle.part_answers.proofs.LeastLemmas.{least_of_all, least_of_more, least_of_none}
use Rattle.part_answers.proofs.whole.least_failure.Goals as goal

pub loop-part-init : goal.loop-part-init
loop-part-init c = least_of_none (λ p. IsFailureIn p.answers.items c.args.property) c.args.parts.now

pub loop-part-preserved : goal.loop-part-preserved
loop-part-preserved c =
    let one = subst
    (λ (answers : List Answered). IsLeast (IsFailureIn answers c.args.property) c.failure_of.result)
    c.deref.ensures.value c.failure_of.ensures in
    rw c.earlier-least.ensures
    (least_of_more (λ p. IsFailureIn p.answers.items c.args.property) c.args.parts.now
    c.loop-part.part-index c.part-item.result c.loop-part.least c.failure_of.result
    c.loop-part-test.true c.part-item.is c.loop-part.invariant one)

pub returns : goal.returns
returns c =
    least_of_all (λ p. IsFailureIn p.answers.items c.args.property) c.args.parts.now
    c.loop-part.part-index c.loop-part.least c.loop-part-test.false c.loop-part.invariant
