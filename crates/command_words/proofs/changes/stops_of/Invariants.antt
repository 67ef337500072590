use Rattle.std.proofs.Common.{◌≡◌, ◌++◌, length}
use Rattle.command_words.specs.Changes.{numbers_of_stops}
use Rattle.command_words.proofs.changes.stops_of.Given as goal

abbrev pub invariant-loop-stop : goal.invariant-loop-stop
invariant-loop-stop l = (numbers_of_stops l.stops.items ++ l.rest) ≡ l.fn.numbers

abbrev pub decreases-loop-stop : goal.decreases-loop-stop
decreases-loop-stop l = length l.rest
