use Rattle.std.proofs.Common.{◌≡◌, ◌∙◌, Option, ℕ, ap, refl, subst}
use Rattle.node_threads.specs.Turns.{IsTurn, Known, tick_in}
use Rattle.node_threads.proofs.Turns.{taken_first, taken_next}
use Rattle.node_threads.proofs.network.Network.take_turns.Goals as goal

pub loop-init : goal.loop-init
loop-init g c =
    let start = g.P.Plan.start in
    let before = c.args.self.now in record {
      next = tt;
      finite = tt;
      plan = refl;
      taken = taken_first g.Q.Policy.chooses start (start before.plan) c.args.clock.now.pace
          c.args.policy.now
          (record { flight = before.flight; count = before.known; told = before.relay });
    }

pub loop-preserved : goal.loop-preserved
loop-preserved g c =
    let start = g.P.Plan.start in
    let chooses = g.Q.Policy.chooses in
    let before = c.args.self.now in
    let old : Known = record {
      flight = before.flight;
      count = before.known;
      told = before.relay;
    } in
    let here = c.loop.self in
    let now : Known = record { flight = here.flight; count = here.known; told = here.relay } in
    let there = c.take_turn.new.self in
    let next : Known = record { flight = there.flight; count = there.known; told = there.relay } in
    let pace = c.args.clock.now.pace in
    let tick : c.tick_in.result ≡ tick_in pace c.loop.tick = c.tick_in.ensures
    ∙ ap (λ p. tick_in p c.loop.tick) c.pace.ensures in
    let timed = subst (λ (o : Option ℕ). IsTurn chooses start (start here.plan) o c.loop.policy now
    c.take_turn.new.policy next) tick c.in_ok-take_turn.ensures.turn in
    let turn = subst (λ (p : g.row.P.Denot). IsTurn chooses start (start p)
    (tick_in pace c.loop.tick) c.loop.policy now c.take_turn.new.policy next)
    c.loop.invariant.plan timed in record {
      next = tt;
      finite = tt;
      plan = c.in_ok-take_turn.ensures.plan ∙ c.loop.invariant.plan;
      taken = taken_next chooses start (start before.plan) pace c.args.policy.now old c.loop.tick
          c.saturating_add-tick.result c.loop.policy c.take_turn.new.policy now next
          c.loop.invariant.taken turn c.saturating_add-tick.ensures;
    }
