use Rattle.std.proofs.Common.{map}
use Rattle.test_kit.specs.Reading.{WriteAll}
use Rattle.test_kit.proofs.reading.numbers.Given as goal

abbrev pub invariant-loop-word : goal.invariant-loop-word
invariant-loop-word g l =
    (goal.iterator-loop-word g).can_next l.word-iterator ×
    (goal.iterator-loop-word g).is_finite l.word-iterator ×
    WriteAll (map (λ text. text.now) l.yielded) l.numbers.items
