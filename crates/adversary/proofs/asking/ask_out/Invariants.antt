use Rattle.adversary.proofs.Asked.{IsAskedTo}
use Rattle.adversary.proofs.asking.ask_out.Given as goal

abbrev pub invariant-loop-question : goal.invariant-loop-question
invariant-loop-question g l =
    IsAskedTo g.Q.Policy.chooses (g.P.Plan.start l.fn.driver.plan) l.fn.now l.fn.policy l.fn.driver
    l.question l.policy l.driver
