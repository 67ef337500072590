use Rattle.std.proofs.Common.{take}
use Rattle.test_kit.specs.Setups.{HasJust}
use Rattle.test_kit.proofs.setups.nodes.Given as goal

abbrev pub invariant-loop-node : goal.invariant-loop-node
invariant-loop-node l = HasJust (take l.node-index l.members) l.set.bits
