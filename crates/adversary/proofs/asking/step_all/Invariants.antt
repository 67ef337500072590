use Rattle.adversary.proofs.Asked.{IsSteppedTo}
use Rattle.adversary.proofs.asking.step_all.Given as goal

abbrev pub invariant-loop-node : goal.invariant-loop-node
invariant-loop-node g l = IsSteppedTo l.fn.correct.bits l.fn.driver l.driver l.node
