use Rattle.std.proofs.Common.{◌≡◌, ◌++◌, length}
use Rattle.command_words.specs.Changes.{numbers_of_delays}
use Rattle.command_words.proofs.changes.delays_of.Given as goal

abbrev pub invariant-loop-delay : goal.invariant-loop-delay
invariant-loop-delay l = (numbers_of_delays l.delays.items ++ l.rest) ≡ l.fn.numbers

abbrev pub decreases-loop-delay : goal.decreases-loop-delay
decreases-loop-delay l = length l.rest
