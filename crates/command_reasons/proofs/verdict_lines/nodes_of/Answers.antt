use Rattle.omission_explainer.proofs.Parts.{nodes_none}
use Rattle.command_reasons.proofs.verdict_lines.nodes_of.Goals as goal

pub loop-node-init : goal.loop-node-init
loop-node-init c = nodes_none c.args.nodes _ c.empty-set.ensures

pub with_node-set-requires : goal.with_node-set-requires
with_node-set-requires c = c.loop-node.invariant

pub loop-node-preserved : goal.loop-node-preserved
loop-node-preserved c = c.with_node-set.ensures

pub returns : goal.returns
returns c = c.loop-node.invariant
