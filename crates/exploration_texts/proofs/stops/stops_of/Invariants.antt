use Rattle.std.proofs.Common.{◌≡◌, map}
use Rattle.std.specs.List.{range_with_len}
use Rattle.exploration_texts.specs.Stops.{steps_of}
use Rattle.exploration_texts.proofs.stops.stops_of.Given as goal

abbrev pub invariant-loop-node : goal.invariant-loop-node
invariant-loop-node g l = l.stops.items ≡ map
    (steps_of (g.P.Plan.nodes l.plan) (g.P.Plan.start l.plan) l.setup.rounds l.pattern)
    (range_with_len 0 l.node)
