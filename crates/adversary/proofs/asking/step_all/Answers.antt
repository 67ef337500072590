use Rattle.std.proofs.Common.{sym, subst, ◌∙◌, ◌+◌}
use Rattle.step_book.specs.Log.{Recorded}
use Rattle.adversary.proofs.Asked.{IsSteppedTo, stepped_first, stepped_next, stepped_none}
use Rattle.adversary.proofs.asking.step_all.Goals as goal
use Rattle.adversary.proofs.asking.step_all.Goals.{then-contains+in_ok-driver, else-contains}

pub loop-node-init : goal.loop-node-init
loop-node-init g c = stepped_first c.args.correct.bits c.args.driver

pub loop-node-preserved : goal.loop-node-preserved
loop-node-preserved g c =
    let correct = c.args.correct.bits in
    let old = c.args.driver in
    let d = c.loop-node.driver in
    let i = c.loop-node.node in
    elim c.if-contains.branch [
      | then-contains+in_ok-driver w ↦
          subst (λ (x : Recorded _). IsSteppedTo correct old x (i + 1)) (sym w.driver-is)
          (stepped_next correct old d w.in_ok-driver.driver i c.loop-node.invariant
          (sym c.contains.ensures ∙ w.if-contains.true) w.in_ok-driver.ensures.plan
          w.in_ok-driver.ensures.log)
      | else-contains w ↦
          subst (λ (x : Recorded _). IsSteppedTo correct old x (i + 1)) (sym w.driver-is)
          (stepped_none correct old d i c.loop-node.invariant (sym c.contains.ensures
          ∙ w.if-contains.false))
    ]
