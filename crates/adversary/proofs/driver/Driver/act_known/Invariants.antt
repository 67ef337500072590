use Rattle.std.proofs.Common.{◌++◌, All, take}
use Rattle.adversary.specs.Driving.{IsDriven, IsKnown}
use Rattle.adversary.proofs.Runs.{IsRun}
use Rattle.adversary.proofs.driver.Driver.act_known.Given as goal

abbrev pub invariant-loop-stored : goal.invariant-loop-stored
invariant-loop-stored g l = record {
  run : IsRun l.initial.journal.log.program l.initial.journal.log.setup l.initial.journal.plan
      l.journal (l.initial.journal.log.trace ++ take l.stored-index l.events);
  known : All (IsKnown l.initial.journal.log.setup) (take l.stored-index l.events);
  driven : IsDriven (g.P.Plan.start l.journal.plan) l.journal.log l.nodes.items;
}
