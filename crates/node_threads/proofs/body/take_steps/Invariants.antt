use Rattle.std.proofs.Common.{◌+◌, ◌-◌}
use Rattle.node_threads.specs.Bodies.{IsInPlace, IsNotPassed, IsTogether}
use Rattle.node_threads.proofs.body.take_steps.Given as goal

abbrev pub invariant-loop-plan : goal.invariant-loop-plan
invariant-loop-plan g l = record {
  together : IsTogether (g.M.Mail.run l.mail) l.seat l.node;
  place : IsInPlace (g.P.Plan.start l.plan) l.rounds l.seat;
  passed : IsNotPassed l.stop l.fn.seat.steps l.seat.steps;
}

abbrev pub decreases-loop-plan : goal.decreases-loop-plan
decreases-loop-plan g l = g.P.Plan.start l.plan (l.rounds + 1) - l.seat.steps
