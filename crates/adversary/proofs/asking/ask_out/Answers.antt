use Rattle.adversary.proofs.Asked.{asked_first, asked_next, asked_out, asked_most}
use Rattle.adversary.proofs.asking.ask_out.Goals as goal

pub loop-question-init : goal.loop-question-init
loop-question-init g c = asked_first g.Q.Policy.chooses g.P.Plan.start c.args.now c.args.policy.now
    c.args.driver

pub loop-question-preserved : goal.loop-question-preserved
loop-question-preserved g c =
    asked_next g.Q.Policy.chooses g.P.Plan.start c.args.now c.args.policy.now c.loop-question.policy
    c.ask.new.policy
    c.args.driver c.loop-question.driver c.journal.result.now c.in_ok-driver.driver
    c.in_ok-event.field-0 c.in-Some.event c.loop-question.question
    c.loop-question.invariant c.journal.ensures c.in-Some.is c.in_ok-event.ensures.asked
    c.in_ok-driver.ensures.plan c.in_ok-driver.ensures.log

pub returns-in_default-clause-asked : goal.returns-in_default-clause-asked
returns-in_default-clause-asked g c =
    asked_out g.Q.Policy.chooses g.P.Plan.start c.args.now c.args.policy.now c.loop-question.policy
    c.ask.new.policy
    c.args.driver c.loop-question.driver c.journal.result.now c.in_ok-event.field-0
    c.loop-question.question
    c.loop-question.invariant c.journal.ensures c.in_default.is c.in_ok-event.ensures.asked

pub returns-clause-asked : goal.returns-clause-asked
returns-clause-asked g c = asked_most g.Q.Policy.chooses g.P.Plan.start c.args.now c.args.policy.now
    c.loop-question.policy
    c.args.driver c.loop-question.driver c.loop-question.question c.loop-question.invariant
    c.loop-question.auto.question-end c.loop-question-test.false
