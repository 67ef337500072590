use Rattle.adversary.proofs.Asked.{run_first, run_next}
use Rattle.adversary.proofs.asking.run.Goals as goal

pub loop-now-init : goal.loop-now-init
loop-now-init g c = run_first g.Q.Policy.chooses g.P.Plan.start c.args.correct.bits
    c.args.policy.now c.args.program.now c.args.setup.now c.args.plan
    c.in_ok-driver.driver c.in_ok-driver.ensures

pub loop-now-preserved : goal.loop-now-preserved
loop-now-preserved g c = run_next g.Q.Policy.chooses g.P.Plan.start c.args.correct.bits
    c.args.policy.now c.loop-now.policy c.ask_out.new.policy
    c.args.program.now c.args.setup.now c.args.plan c.loop-now.now c.loop-now.driver
    c.in_ok-driver-2.driver c.in_ok-driver-3.driver
    c.loop-now.invariant c.in_ok-driver-2.ensures.asked c.in_ok-driver-2.ensures.plan
    c.in_ok-driver-3.ensures.stepped c.in_ok-driver-3.ensures.plan
