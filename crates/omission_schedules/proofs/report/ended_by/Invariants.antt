use Rattle.std.proofs.Common.{◌≡◌, ◌-◌, ◌≤◌, length}
use Rattle.std.specs.Prelude.{filter, slice_index}
use Rattle.std.specs.List.{range_with_len}
use Rattle.omission_schedules.specs.Reports.{is_ended}
use Rattle.omission_schedules.proofs.report.ended_by.Given as goal

abbrev pub invariant-loop-round : goal.invariant-loop-round
invariant-loop-round g l = record {
  counted : l.ended ≡ length (filter
      (λ r. is_ended (g.P.Plan.start l.run.plan) (slice_index l.run.stops.now) (r, l.node))
      (range_with_len 1 (l.round - 1)));
  few : l.ended ≤ l.round - 1;
}
