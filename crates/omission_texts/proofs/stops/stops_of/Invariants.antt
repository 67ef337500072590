use Rattle.std.proofs.Common.{◌≡◌, map}
use Rattle.std.specs.List.{range_with_len}
use Rattle.omission_texts.specs.Stops.{steps_of}
use Rattle.omission_texts.proofs.stops.stops_of.Given as goal

abbrev pub invariant-loop-node : goal.invariant-loop-node
invariant-loop-node g l = l.stops.items ≡ map
    (steps_of (g.P.Plan.nodes l.plan) (g.P.Plan.start l.plan) l.setup l.lines)
    (range_with_len 0 l.node)
