use Rattle.std.proofs.Common.{◌≡◌, ◌∙◌, ℕ, None, Option, Some, refl, subst}
use Rattle.policies.specs.declared.policy.Choice.{Choice}
use Rattle.run_events.specs.declared.event.Event.{Event}
use Rattle.node_threads.specs.Turns.{HasLearnt, IsAskedFor, IsAskedOnce, Known}
use Rattle.node_threads.proofs.Turns.{turn_ends, turn_first, turn_next}
use Rattle.node_threads.proofs.network.Network.take_turn.Goals as goal

pub loop-init : goal.loop-init
loop-init g c =
    let start = g.P.Plan.start in
    let before = c.args.self.now in record {
      next = tt;
      finite = tt;
      plan = refl;
      turn = turn_first g.Q.Policy.chooses start (start before.plan) c.args.tick c.args.policy.now
          (record { flight = before.flight; count = before.known; told = before.relay });
    }

pub returns-in_default-clause-turn : goal.returns-in_default-clause-turn
returns-in_default-clause-turn g c =
    let start = g.P.Plan.start in
    let before = c.args.self.now in
    let old : Known = record {
      flight = before.flight;
      count = before.known;
      told = before.relay;
    } in
    let here = c.loop.self in
    let now : Known = record { flight = here.flight; count = here.known; told = here.relay } in
    let there = c.learn.new.self in
    let learnt : Known = record {
      flight = there.flight;
      count = there.known;
      told = there.relay;
    } in
    let events = c.in_ok-events.events in
    let learns = subst (λ (p : g.row.P.Denot). HasLearnt start (start p) now learnt events)
    c.loop.invariant.plan c.in_ok-events.ensures.learnt in
    let asked = subst (λ (o : Option (Choice × Event)). IsAskedFor g.Q.Policy.chooses start
    c.now_of.result there.flight c.loop.policy c.ask.new.policy o) c.in_default.is
    c.in_ok-choice.ensures in
    turn_ends g.Q.Policy.chooses start (start before.plan) c.args.tick c.args.policy.now old
    events c.loop.policy c.ask.new.policy now learnt c.loop.invariant.turn learns
    (subst (λ (n : ℕ). IsAskedFor g.Q.Policy.chooses start n there.flight c.loop.policy
    c.ask.new.policy None) c.now_of.ensures asked)

pub loop-preserved : goal.loop-preserved
loop-preserved g c =
    let start = g.P.Plan.start in
    let before = c.args.self.now in
    let old : Known = record {
      flight = before.flight;
      count = before.known;
      told = before.relay;
    } in
    let here = c.loop.self in
    let now : Known = record { flight = here.flight; count = here.known; told = here.relay } in
    let there = c.learn.new.self in
    let learnt : Known = record {
      flight = there.flight;
      count = there.known;
      told = there.relay;
    } in
    let after = c.carry_out.new.self in
    let next : Known = record { flight = after.flight; count = after.known; told = after.relay } in
    let events = c.in_ok-events.events in
    let learns = subst (λ (p : g.row.P.Denot). HasLearnt start (start p) now learnt events)
    c.loop.invariant.plan c.in_ok-events.ensures.learnt in
    let choice = c.in-Some-2.choice in
    let event = c.in-Some-2.event in
    let pair : c.in_ok-choice.field-0 ≡ Some (choice, event) = cc in
    let asked = subst (λ (o : Option (Choice × Event)). IsAskedFor g.Q.Policy.chooses start
    c.now_of.result there.flight c.loop.policy c.ask.new.policy o) pair c.in_ok-choice.ensures in
    record {
      next = tt;
      finite = tt;
      plan = c.in_ok-carry_out.ensures.plan ∙ c.in_ok-events.ensures.plan ∙ c.loop.invariant.plan;
      turn = turn_next g.Q.Policy.chooses start (start before.plan) c.args.tick c.args.policy.now
          old events c.loop.policy c.ask.new.policy now learnt next choice event
          c.loop.invariant.turn learns
          (subst (λ (n : ℕ). IsAskedOnce g.Q.Policy.chooses start n there.flight c.loop.policy
          c.ask.new.policy (Some choice) (Some event)) c.now_of.ensures asked)
          c.in_ok-carry_out.ensures.done;
    }
