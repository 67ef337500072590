use Rattle.std.proofs.Common.{◌≡◌, ◌++◌, map, take}
use Rattle.command_runs.specs.InChanges.{word_stop}
use Rattle.command_runs.proofs.changes.add_stops.Given as goal

abbrev pub invariant-loop-word : goal.invariant-loop-word
invariant-loop-word l =
    l.stops.items ≡ l.initial.stops.items ++ map word_stop (take l.word-index l.words)
