use Rattle.std.specs.List.{filter_map, range_with_len}
use Rattle.round_meaning.specs.Nodes.{has_node}
use Rattle.round_meaning.specs.Rounds.{algorithm_of, heard}
use Rattle.round_meaning.specs.States.{state_in}
use Rattle.step_code.specs.Rooms.{IsRoomOf}
use Rattle.step_code.specs.Turns.{InTurn}
use Rattle.run_samples.proofs.machine.take_all.Given as goal

abbrev pub invariant-loop-from : goal.invariant-loop-from
invariant-loop-from l =
    record {
      sending : IsRoomOf l.code l.sending;
      turn : InTurn l.code l.setup l.round l.me (state_in l.before l.me)
          (filter_map (heard (algorithm_of l.code l.setup) (has_node l.missed.bits)
          (state_in l.before) l.round l.me) (range_with_len 0 l.from)) l.ending;
    }
