use Rattle.std.proofs.Common.{◌≡◌, map, take}
use Rattle.command_runs.specs.InChanges.{word_delay}
use Rattle.command_runs.proofs.changes.own_delays.Given as goal

abbrev pub invariant-loop-word : goal.invariant-loop-word
invariant-loop-word l = l.delays.items ≡ map word_delay (take l.word-index l.words)
