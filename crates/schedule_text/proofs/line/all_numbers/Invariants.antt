use Rattle.std.proofs.Common.{◌≡◌, length}
use Rattle.schedule_text.specs.Stages.{all_of, numbers_in}
use Rattle.schedule_text.proofs.Numbers.{onto}
use Rattle.schedule_text.proofs.line.all_numbers.Given as goal

abbrev pub invariant-numbers : goal.invariant-numbers
invariant-numbers l = onto l.values.items (all_of (numbers_in l.rest)) ≡ all_of (numbers_in l.text)

abbrev pub decreases-numbers : goal.decreases-numbers
decreases-numbers l = length l.rest
