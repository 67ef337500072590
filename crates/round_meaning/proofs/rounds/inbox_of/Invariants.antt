use Rattle.std.proofs.Common.{◌≡◌}
use Rattle.std.specs.List.{filter_map, range_with_len}
use Rattle.round_meaning.specs.Omissions.{is_omitted}
use Rattle.round_meaning.specs.Rounds.{algorithm_of, heard}
use Rattle.round_meaning.specs.States.{state_in}
use Rattle.round_meaning.proofs.rounds.inbox_of.Given as goal

abbrev pub invariant-loop-from : goal.invariant-loop-from
invariant-loop-from l =
    l.inbox.items ≡ filter_map
    (heard (algorithm_of l.program l.setup) (is_omitted l.omissions l.me l.round)
    (state_in l.before) l.round l.me) (range_with_len 0 l.from)
