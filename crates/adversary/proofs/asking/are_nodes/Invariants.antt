use Rattle.std.proofs.Common.{◌≡◌, ℕ, ◌<◌, ◌≤◌, false}
use Rattle.round_meaning.specs.Nodes.{has_node}
use Rattle.adversary.proofs.asking.are_nodes.Given as goal

abbrev pub invariant-loop-node : goal.invariant-loop-node
invariant-loop-node l = (i : ℕ) → l.fn.nodes ≤ i → i < l.node → has_node l.fn.members.bits i ≡ false
