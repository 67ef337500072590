use Rattle.std.specs.Fmt.{decimal}
use Rattle.part_answers.proofs.answered.read_failure.Goals as goal

pub returns-in_err-after_words-clause-none : goal.returns-in_err-after_words-clause-none
returns-in_err-after_words-clause-none c =
    rw c.from_residual.ensures (λ r is same. c.in_err-after_words.ensures (decimal r) same)
