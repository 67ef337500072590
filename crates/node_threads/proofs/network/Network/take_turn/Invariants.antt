use Rattle.std.proofs.Common.{◌≡◌}
use Rattle.node_threads.proofs.Turns.{IsInTurn}
use Rattle.node_threads.proofs.network.Network.take_turn.Given as goal

abbrev pub invariant-loop : goal.invariant-loop
invariant-loop g l = record {
  next : (goal.iterator-loop g).can_next l.iterator';
  finite : (goal.iterator-loop g).is_finite l.iterator';
  plan : l.self.plan ≡ l.fn.self.plan;
  turn : IsInTurn g.Q.Policy.chooses g.P.Plan.start (g.P.Plan.start l.fn.self.plan) l.tick
      l.fn.policy
      (record { flight = l.fn.self.flight; count = l.fn.self.known; told = l.fn.self.relay })
      l.policy
      (record { flight = l.self.flight; count = l.self.known; told = l.self.relay });
}
