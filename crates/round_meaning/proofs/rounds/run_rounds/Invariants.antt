use Rattle.std.proofs.Common.{◌≡◌, ◌+◌, map}
use Rattle.std.specs.List.{range_with_len}
use Rattle.round_meaning.specs.Omissions.{is_omitted}
use Rattle.round_meaning.specs.Rounds.{algorithm_of}
use Rattle.round_meaning.specs.States.{states_after}
use Rattle.round_meaning.proofs.rounds.run_rounds.Given as goal

abbrev pub invariant-loop-done : goal.invariant-loop-done
invariant-loop-done l =
    l.snapshots.items ≡ map (states_after (algorithm_of l.program l.setup) (is_omitted l.omissions))
    (range_with_len 0 (l.done + 1))
