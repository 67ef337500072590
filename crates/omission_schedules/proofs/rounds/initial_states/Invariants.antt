use Rattle.std.proofs.Common.{◌≡◌, map}
use Rattle.std.specs.List.{range_with_len}
use Rattle.round_meaning.specs.Rounds.{algorithm_of}
use Rattle.omission_schedules.proofs.rounds.initial_states.Given as goal

abbrev pub invariant-loop-node : goal.invariant-loop-node
invariant-loop-node l = l.states.items ≡ map (algorithm_of l.program l.setup).init
    (range_with_len 0 l.node)
