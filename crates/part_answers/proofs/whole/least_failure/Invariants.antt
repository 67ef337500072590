use Rattle.part_answers.specs.Wholes.{IsFailureIn, IsLeast}
use Rattle.part_answers.proofs.LeastLemmas.{Before}
use Rattle.part_answers.proofs.whole.least_failure.Given as goal

abbrev pub invariant-loop-part : goal.invariant-loop-part
invariant-loop-part l =
    IsLeast (Before (λ p. IsFailureIn p.answers.items l.property) l.parts l.part-index) l.least
