use Rattle.std.proofs.Common.{◌≡◌}
use Rattle.round_meaning.specs.Omissions.{is_omitted}
use Rattle.omission_schedules.specs.Schedules.{schedule_of}
use Rattle.omission_schedules.proofs.schedule.schedule_of.Given as goal

abbrev pub invariant-loop-before : goal.invariant-loop-before
invariant-loop-before g l =
    l.events.items ≡ schedule_of l.setup.nodes (g.P.Plan.receives l.plan) (is_omitted l.omissions)
    l.before
