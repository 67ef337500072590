use Rattle.adversary.proofs.Asked.{IsRunTo}
use Rattle.adversary.proofs.asking.run.Given as goal

abbrev pub invariant-loop-now : goal.invariant-loop-now
invariant-loop-now g l =
    IsRunTo g.Q.Policy.chooses (g.P.Plan.start l.fn.plan) l.fn.correct.bits l.fn.policy l.fn.program
    l.fn.setup l.fn.plan l.now l.policy l.driver
