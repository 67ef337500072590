use Rattle.std.proofs.Common.{◌+◌, ◌-◌, ◌<◌, ◌≤◌}
use Rattle.run_events.specs.Limits.{max_rounds}
use Rattle.slot_plans.proofs.plan.round_of.Given as goal

-- the step is in the rounds from `low` up to, but not, `high`
abbrev pub invariant-loop-low : goal.invariant-loop-low
invariant-loop-low g l = record {
  first : 1 ≤ l.low;
  ordered : l.low < l.high;
  last : l.high ≤ max_rounds + 1;
  started : g.P.Plan.start l.plan l.low ≤ l.step;
  unfinished : l.step < g.P.Plan.start l.plan l.high;
}

abbrev pub decreases-loop-low : goal.decreases-loop-low
decreases-loop-low g l = l.high - l.low
