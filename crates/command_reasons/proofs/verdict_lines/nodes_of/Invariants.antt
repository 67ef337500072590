use Rattle.omission_explainer.specs.Verdict.{AreNodes}
use Rattle.command_reasons.proofs.verdict_lines.nodes_of.Given as goal

abbrev pub invariant-loop-node : goal.invariant-loop-node
invariant-loop-node l = AreNodes l.nodes l.set.bits
