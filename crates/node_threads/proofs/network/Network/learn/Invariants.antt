use Rattle.std.proofs.Common.{◌≡◌, ◌++◌, drop, length}
use Rattle.node_threads.specs.Flights.{known_with, sent_after}
use Rattle.node_threads.proofs.network.Network.learn.Given as goal

abbrev pub invariant-loop-place : goal.invariant-loop-place
invariant-loop-place g l =
    let start = g.P.Plan.start l.fn.self.plan in
    let sent = l.self.sent.items in record {
      plan : l.self.plan ≡ l.fn.self.plan;
      relay : l.self.relay ≡ l.fn.self.relay;
      same : sent ≡ l.initial.self.sent.items;
      sized : l.place-end ≡ length sent;
      flight : l.self.flight ++ sent_after start l.self.known (drop l.place sent)
          ≡ l.fn.self.flight ++ sent_after start l.fn.self.known sent;
      known : known_with l.self.known (drop l.place sent) ≡ known_with l.fn.self.known sent;
    }
