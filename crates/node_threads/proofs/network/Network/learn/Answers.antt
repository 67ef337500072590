use Rattle.std.proofs.Common.{◌≤◌, arith, length}
use Rattle.node_threads.specs.Turns.{Known}
use Rattle.node_threads.proofs.Turns.{learnt_all}
use Rattle.node_threads.proofs.network.Network.learn.Goals as goal

pub returns-clause-learnt : goal.returns-clause-learnt
returns-clause-learnt g c =
    let inv = c.loop-place.invariant in
    let now = c.loop-place.self in
    let old : Known = record {
      flight = c.args.self.now.flight;
      count = c.args.self.now.known;
      told = c.args.self.now.relay;
    } in
    let new : Known = record { flight = now.flight; count = now.known; told = now.relay } in
    let all : length now.sent.items ≤ c.loop-place.place = omega (
      arith,
      inv.sized,
      c.loop-place-test.false,
    ) in
    learnt_all g.P.Plan.start c.args.self.now.post.now (g.P.Plan.start c.args.self.now.plan) old new
    c.in_ok-events.events c.loop-place.place c.clear.new.self.items c.sent_since.new.sent.items now.sent.items
    c.in_ok-events.ensures.ok c.clear.ensures.items inv.same all inv.flight inv.known inv.relay
