use Rattle.std.proofs.Common.{◌+◌}
use Rattle.node_threads.specs.Bodies.{SeatsEnded}
use Rattle.node_threads.specs.Ends.{AreBehind}
use Rattle.node_threads.proofs.run.seats_of.Given as goal

abbrev pub invariant-loop-thread_end : goal.invariant-loop-thread_end
invariant-loop-thread_end g l = record {
  ended : SeatsEnded (g.P.Plan.start l.plan) l.rounds l.stops l.seats.items l.ends.items;
  behind : AreBehind (g.P.Plan.start l.plan (l.rounds + 1)) l.stops l.ends.items;
}
