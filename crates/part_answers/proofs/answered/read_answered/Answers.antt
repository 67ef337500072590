use Rattle.part_answers.proofs.AnswerLemmas.{answered_has_space, answered_parts}
use Rattle.part_answers.proofs.answered.read_answered.Goals as goal

pub returns-in_err-name-clause-none : goal.returns-in_err-name-clause-none
returns-in_err-name-clause-none c =
    rw c.from_residual.ensures (λ a is same.
    answered_has_space c.args.line.now a c.in_err-name.ensures same)

pub returns-in_err-property-clause-none : goal.returns-in_err-property-clause-none
returns-in_err-property-clause-none c =
    rw c.from_residual-in_err-property.ensures (λ a is same.
    let parts = answered_parts c.args.line.now c.in_ok-name.name.now c.in_ok-name.words.now a
    c.in_ok-name.ensures same in
    c.in_err-property.ensures.none a.property parts.0)

pub returns-in_err-outcome-clause-none : goal.returns-in_err-outcome-clause-none
returns-in_err-outcome-clause-none c =
    rw c.from_residual-in_err-outcome.ensures (λ a is same.
    let parts = answered_parts c.args.line.now c.in_ok-name.name.now c.in_ok-name.words.now a
    c.in_ok-name.ensures same in
    c.in_err-outcome.ensures.none a.outcome is parts.1)
