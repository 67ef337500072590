use Rattle.std.proofs.Common.{◌≡◌}
use Rattle.std.specs.Prelude.{slice_index}
use Rattle.round_meaning.specs.Omissions.{is_omitted}
use Rattle.omission_schedules.specs.Schedules.{schedule_with_stops}
use Rattle.omission_schedules.proofs.schedule.schedule_with_stops.Given as goal

abbrev pub invariant-loop-before : goal.invariant-loop-before
invariant-loop-before g l =
    l.events.items ≡ schedule_with_stops l.setup.nodes (g.P.Plan.receives l.plan)
    (g.P.Plan.start l.plan) (slice_index l.stops) (is_omitted l.omissions) l.before
