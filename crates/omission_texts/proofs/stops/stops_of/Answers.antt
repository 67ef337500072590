use Rattle.std.proofs.Common.{arith}
use Rattle.omission_texts.specs.Stops.{steps_of}
use Rattle.omission_texts.proofs.Crashes.{all_stops, one_stop_more}
use Rattle.omission_texts.proofs.stops.stops_of.Goals as goal

pub loop-node-preserved : goal.loop-node-preserved
loop-node-preserved g c =
    let f = steps_of (g.P.Plan.nodes c.args.plan) (g.P.Plan.start c.args.plan)
    c.args.setup.now c.args.lines.now in
    one_stop_more f c.loop-node.node c.steps_of.result c.loop-node.stops.items
    c.push.new.self.items c.loop-node.invariant c.steps_of.ensures c.in_ok-push.ensures.items

pub returns : goal.returns
returns g c =
    let f = steps_of (g.P.Plan.nodes c.args.plan) (g.P.Plan.start c.args.plan)
    c.args.setup.now c.args.lines.now in
    all_stops f c.loop-node.node c.args.setup.now.nodes c.loop-node.stops.items
    (omega (arith, c.loop-node-test.false, c.loop-node.auto.node-end)) c.loop-node.invariant
