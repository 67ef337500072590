use Rattle.std.proofs.Common.{arith, sym, subst}
use Rattle.std.proofs.lemmas.List.{take_all, take_more}
use Rattle.command_runs.specs.Explained.{AreListed}
use Rattle.command_runs.proofs.Lists.{below_more, listed_more, listed_none}
use Rattle.command_runs.proofs.explained.nodes_in.Goals as goal

pub loop-node-init : goal.loop-node-init
loop-node-init c =
    (listed_none c.args.nodes _ c.empty-set.ensures, λ k d none. absurd (omega (arith, none)))

pub loop-node-preserved : goal.loop-node-preserved
loop-node-preserved c = (
  subst (λ list. AreListed c.args.nodes list c.with-set.result.bits)
      (sym (take_more c.args.list.now c.loop-node.node-index 0 c.loop-node-test.true))
      (listed_more c.args.nodes c.loop-node.set.bits c.with-set.result.bits _ _
      c.if-node-nodes.false c.with-set.ensures c.loop-node.invariant.0),
  below_more c.args.nodes c.args.list.now c.loop-node.node-index 0 c.loop-node-test.true
      c.if-node-nodes.false c.loop-node.invariant.1,
)

pub returns-clause-some : goal.returns-clause-some
returns-clause-some c =
    subst (λ list. AreListed c.args.nodes list c.loop-node.set.bits)
    (take_all c.loop-node.node-index c.args.list.now c.loop-node-test.false)
    c.loop-node.invariant.0

pub returns-clause-each : goal.returns-clause-each
returns-clause-each c =
    λ k d within. c.loop-node.invariant.1 k d (omega (arith, within, c.loop-node-test.false))
