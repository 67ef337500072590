use Rattle.std.proofs.Common.{◌≡◌, subst, sym}
use Rattle.part_answers.specs.Questions.{IsQuestion}
use Rattle.part_answers.proofs.HeadLemmas.{head_begins, head_has_space, head_parts}
use Rattle.part_answers.proofs.part.PartHead.read.Goals as goal

pub returns-in_err-numbers_on-clause-none : goal.returns-in_err-numbers_on-clause-none
returns-in_err-numbers_on-clause-none c =
    rw c.from_residual.ensures (λ h is same.
    let begins = head_begins c.args.line.now h same in
    c.in_err-numbers_on.ensures begins.0 begins.1)

pub returns-in_err-share-clause-none : goal.returns-in_err-share-clause-none
returns-in_err-share-clause-none c =
    rw c.from_residual-in_err-share.ensures (λ h is same.
    head_has_space c.args.line.now c.in_ok-numbers_on.numbers_on.now h c.in_ok-numbers_on.ensures
    c.in_err-share.ensures same)

pub returns-in_err-part-clause-none : goal.returns-in_err-part-clause-none
returns-in_err-part-clause-none c =
    rw c.from_residual-in_err-part.ensures (λ h is same.
    let parts = head_parts c.args.line.now c.in_ok-numbers_on.numbers_on.now c.in_ok-share.share.now
    c.in_ok-share.of_on.now h is c.in_ok-numbers_on.ensures c.in_ok-share.ensures same in
    c.in_err-part.ensures.none h.part is.0 parts.0)

pub returns-in_err-digits-clause-none : goal.returns-in_err-digits-clause-none
returns-in_err-digits-clause-none c =
    rw c.from_residual-in_err-digits.ensures (λ h is same.
    let parts = head_parts c.args.line.now c.in_ok-numbers_on.numbers_on.now c.in_ok-share.share.now
    c.in_ok-share.of_on.now h is c.in_ok-numbers_on.ensures c.in_ok-share.ensures same in
    c.in_err-digits.ensures h.question parts.1)

pub returns-in_err-question-clause-none : goal.returns-in_err-question-clause-none
returns-in_err-question-clause-none c =
    rw c.from_residual-in_err-question.ensures (λ h is same.
    let parts = head_parts c.args.line.now c.in_ok-numbers_on.numbers_on.now c.in_ok-share.share.now
    c.in_ok-share.of_on.now h is c.in_ok-numbers_on.ensures c.in_ok-share.ensures same in
    let digits : c.in_ok-digits.digits.now ≡ h.question = cc (parts.1, c.in_ok-digits.ensures) in
    c.in_err-question.ensures.none (subst IsQuestion (sym digits) is.1))
