use Rattle.std.proofs.Common.{◌++◌, take}
use Rattle.adversary.specs.Driving.{IsDriven}
use Rattle.adversary.proofs.Runs.{IsRun}
use Rattle.adversary.proofs.driver.Driver.act_all.Given as goal

abbrev pub invariant-loop-event : goal.invariant-loop-event
invariant-loop-event g l = record {
  run : IsRun l.initial.journal.log.program l.initial.journal.log.setup l.initial.journal.plan
      l.journal (l.initial.journal.log.trace ++ take l.event-index l.events);
  driven : IsDriven (g.P.Plan.start l.journal.plan) l.journal.log l.nodes.items;
}
