use Rattle.std.proofs.Common.{subst}
use Rattle.std.specs.Prelude.{IfSome}
use Rattle.run_samples.specs.declared.running.Failing.{Failing}
use Rattle.run_samples.specs.Samples.{IsFailingRun}
use Rattle.run_samples.proofs.ShrinkLaws.{part_told, stays_told}
use Rattle.run_samples.proofs.shrinking.shrink.Goals as goal

pub returns-in_ok-told_of-in-Some-clause-part : goal.returns-in_ok-told_of-in-Some-clause-part
returns-in_ok-told_of-in-Some-clause-part c =
    let f = c.in-Some.failing in
    let part = c.is_part_of.ensures c.if-is_part_of.true in
    part_told c.args.program.now c.args.setup.now c.args.question c.args.property c.args.found
    c.in_ok-told_of-in-Some.field-0 c.in_ok-case.case c.in_ok-case.ensures f.round f.path
    c.in_ok-told_of-in-Some.ensures part.0 part.1

pub returns-in_ok-told_of-in-Some-clause-failure :
    goal.returns-in_ok-told_of-in-Some-clause-failure
returns-in_ok-told_of-in-Some-clause-failure c =
    let p = c.args.program.now in
    let x = c.in_ok-case.case in
    let f = c.in-Some.failing in
    let part = c.is_part_of.ensures c.if-is_part_of.true in
    stays_told p c.args.setup.now c.args.question c.args.property c.args.found
    c.in_ok-told_of-in-Some.field-0 x c.in_ok-case.ensures f.round f.path
    c.in_ok-told_of-in-Some.ensures part.0
    (subst (λ o. IfSome o (λ (y : Failing). IsFailingRun p x y.round y.path)) c.in-Some.is
    c.in_ok-failing.ensures.failing)
