use Rattle.std.proofs.Common.{◌≡◌}
use Rattle.std.specs.List.{filter_map, range_with_len}
use Rattle.command_runs.specs.InChanges.{crash_stop}
use Rattle.command_runs.proofs.changes.crash_stops.Given as goal

abbrev pub invariant-loop-node : goal.invariant-loop-node
invariant-loop-node g l =
    l.stops.items ≡ filter_map (crash_stop (g.P.Plan.start l.fn.plan) l.setup l.omissions)
    (range_with_len 0 l.node)
