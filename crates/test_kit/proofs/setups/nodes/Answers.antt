use Rattle.std.proofs.Common.{sym, subst}
use Rattle.std.proofs.lemmas.List.{take_all, take_more}
use Rattle.test_kit.specs.Setups.{HasJust}
use Rattle.test_kit.proofs.ListedNodes.{just_more, just_none}
use Rattle.test_kit.proofs.setups.nodes.Goals as goal

pub loop-node-init : goal.loop-node-init
loop-node-init c = just_none _ c.empty-set.ensures

pub loop-node-preserved : goal.loop-node-preserved
loop-node-preserved c =
    subst (λ list. HasJust list c.with-set.result.bits)
    (sym (take_more c.args.members.now c.loop-node.node-index 0 c.loop-node-test.true))
    (just_more c.loop-node.set.bits c.with-set.result.bits _ _ c.with-set.ensures
    c.loop-node.invariant)

pub returns : goal.returns
returns c =
    subst (λ list. HasJust list c.loop-node.set.bits)
    (take_all c.loop-node.node-index c.args.members.now c.loop-node-test.false)
    c.loop-node.invariant
