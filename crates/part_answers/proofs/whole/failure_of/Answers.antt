use Rattle.std.proofs.Common.{get_or}
use Rattle.std.proofs.lemmas.List.{get_or_default}
use Rattle.part_answers.specs.Tables.{IsNo}
use Rattle.part_answers.specs.declared.answered.Answered.{Answered}
use Rattle.part_answers.specs.declared.answered.Outcome.TheVariants.{Holds}
use Rattle.part_answers.specs.declared.property.Property.TheVariants.{Agreement}
use Rattle.part_answers.proofs.LeastLemmas.{least_no, least_of_all, least_of_more, least_of_none}
use Rattle.part_answers.proofs.whole.failure_of.Goals as goal

pub loop-answered-init : goal.loop-answered-init
loop-answered-init c = least_of_none (IsNo c.args.property) c.args.answers.now

pub loop-answered-preserved : goal.loop-answered-preserved
loop-answered-preserved c =
    let answers = c.args.answers.now in
    let i = c.loop-answered.answered-index in
    let d : Answered = record { property = Agreement; outcome = Holds } in
    let a = get_or answers i d in
    rw c.earlier-least.ensures
    (least_of_more (IsNo c.args.property) answers i a c.loop-answered.least c.failure_in.result
    c.loop-answered-test.true (get_or_default answers i d a c.loop-answered-test.true)
    c.loop-answered.invariant c.failure_in.ensures)

pub returns : goal.returns
returns c =
    least_no c.args.answers.now c.args.property c.loop-answered.least
    (least_of_all (IsNo c.args.property) c.args.answers.now c.loop-answered.answered-index
    c.loop-answered.least c.loop-answered-test.false c.loop-answered.invariant)
