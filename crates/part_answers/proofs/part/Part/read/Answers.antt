use Rattle.std.proofs.Common.{◌≡◌, ◌∙◌, arith, false, sym, true}
use Rattle.part_answers.specs.Heads.{IsPart}
use Rattle.part_answers.specs.declared.part.Part.{Part}
use Rattle.part_answers.proofs.HeadLemmas.{share_is, share_parts}
use Rattle.part_answers.proofs.part.Part.read.Goals as goal

pub returns-in_err-number-clause-none : goal.returns-in_err-number-clause-none
returns-in_err-number-clause-none c =
    rw c.from_residual-in_err-number.ensures (λ p is same.
    let parts = share_parts c.args.text.now c.in_ok-before.before.now c.in_ok-before.after.now p is
    c.in_ok-before.ensures same in
    c.in_err-number.ensures.none p.number (omega (arith, is.1, is.2)) parts.0)

pub returns-in_err-count-clause-none : goal.returns-in_err-count-clause-none
returns-in_err-count-clause-none c =
    rw c.from_residual-in_err-count.ensures (λ p is same.
    let parts = share_parts c.args.text.now c.in_ok-before.before.now c.in_ok-before.after.now p is
    c.in_ok-before.ensures same in
    c.in_err-count.ensures.none p.count (omega (arith, is.2)) parts.1)

pub returns-then-not-is_one-clause-none : goal.returns-then-not-is_one-clause-none
returns-then-not-is_one-clause-none c = λ p is same.
    let m = c.in_ok-number.number in
    let n = c.in_ok-count.count in
    let equal = share_is c.args.text.now c.in_ok-before.before.now c.in_ok-before.after.now m n p is
    c.in_ok-before.ensures c.in_ok-number.ensures.some c.in_ok-count.ensures.some (omega arith)
    (omega arith) same in
    let read : Part = record { number = m; count = n } in
    let one : IsPart read = (
      omega (arith, is.0, equal.0),
      omega (arith, is.1, equal.0, equal.1),
      omega (arith, is.2, equal.1),
    ) in
    let bad : true ≡ false = sym (c.is_one.ensures.1 one) ∙ c.if-not-is_one.true in absurd (cc bad)
