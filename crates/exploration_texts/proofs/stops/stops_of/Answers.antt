use Rattle.std.proofs.Common.{ap, ◌∙◌, arith}
use Rattle.exploration_texts.specs.Stops.{steps_of, steps_with}
use Rattle.exploration_texts.proofs.Stopping.{all_stops, one_stop_more}
use Rattle.exploration_texts.proofs.stops.stops_of.Goals as goal

pub loop-node-preserved : goal.loop-node-preserved
loop-node-preserved g c =
    let nodes = g.P.Plan.nodes c.args.plan in
    let start = g.P.Plan.start c.args.plan in
    let rounds = c.args.setup.now.rounds in
    let f = steps_of nodes start rounds c.args.pattern.now in
    one_stop_more f c.loop-node.node c.steps_with.result c.loop-node.stops.items
    c.push.new.self.items c.loop-node.invariant
    (c.steps_with.ensures ∙ ap (steps_with nodes start rounds) c.failure_of-failure.ensures)
    c.in_ok-push.ensures.items

pub returns : goal.returns
returns g c =
    let f = steps_of (g.P.Plan.nodes c.args.plan) (g.P.Plan.start c.args.plan)
    c.args.setup.now.rounds c.args.pattern.now in
    all_stops f c.loop-node.node c.args.setup.now.nodes c.loop-node.stops.items
    (omega (arith, c.loop-node-test.false, c.loop-node.auto.node-end)) c.loop-node.invariant
