use Rattle.std.proofs.Common.{All, List, subst}
use Rattle.std.proofs.lemmas.List.{take_all}
use Rattle.std.proofs.lemmas.List.Elements.{All-more}
use Rattle.part_answers.specs.Wholes.{IsAlike}
use Rattle.part_answers.specs.declared.part.PartAnswers.{PartAnswers}
use Rattle.part_answers.proofs.joining.first_other.Goals as goal

pub loop-place-preserved : goal.loop-place-preserved
loop-place-preserved c =
    let part = c.index-parts-place.result in
    let alike = subst (IsAlike c.args.first.now) c.index-parts-place.is
    (c.is_alike.ensures.0 c.if-not-is_alike.false) in
    All-more (IsAlike c.args.first.now) c.args.parts.now c.loop-place.place part
    c.loop-place-test.true c.loop-place.invariant alike

pub returns-clause-none : goal.returns-clause-none
returns-clause-none c =
    subst (λ (parts : List PartAnswers). All (IsAlike c.args.first.now) parts)
    (take_all c.loop-place.place c.args.parts.now c.loop-place-test.false) c.loop-place.invariant
