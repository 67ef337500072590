use Rattle.std.proofs.Common.{◌≡◌, ◌+◌, map}
use Rattle.std.specs.List.{range_with_len}
use Rattle.round_meaning.specs.Omissions.{is_omitted}
use Rattle.round_meaning.specs.Rounds.{algorithm_of}
use Rattle.round_meaning.specs.States.{next_state, state_in}
use Rattle.round_meaning.proofs.rounds.next_states.Given as goal

abbrev pub invariant-loop-me : goal.invariant-loop-me
invariant-loop-me l =
    l.states ≡ map (next_state (algorithm_of l.program l.setup) (is_omitted l.omissions)
    (l.done + 1) (state_in l.before)) (range_with_len 0 l.me)
