use Rattle.std.proofs.Common.{◌≡◌, map}
use Rattle.std.specs.Prelude.{slice_index}
use Rattle.std.specs.List.{range_with_len}
use Rattle.omission_schedules.specs.Reports.{count_until}
use Rattle.omission_schedules.proofs.report.counts_of.Given as goal

abbrev pub invariant-loop-node : goal.invariant-loop-node
invariant-loop-node g l =
    l.counts.items ≡ map (count_until (g.P.Plan.start l.run.plan) (slice_index l.run.stops.now)
    l.run.setup.now.rounds) (range_with_len 0 l.node)
