use Rattle.omission_explainer.proofs.Parts.{nodes_with}
use Rattle.command_reasons.proofs.verdict_lines.with_node.Goals as goal

pub returns-then-node-nodes : goal.returns-then-node-nodes
returns-then-node-nodes c =
    nodes_with c.args.nodes c.args.set.bits _ c.args.node c.if-node-nodes.true c.with.ensures
    c.requires
