use Rattle.std.proofs.Common.{◌≤◌, arith, subst, sym}
use Rattle.clap.specs.Words.{Text}
use Rattle.command_words.specs.Searching.{PartText}
use Rattle.command_words.specs.Values.{NumberText}
use Rattle.command_words.specs.declared.searching.PartChoice.{PartChoice}
use Rattle.command_words.proofs.PartLemmas.{nothing_after_slash, numbers_of, part_is}
use Rattle.command_words.proofs.searching.read_part.Goals as goal
use Rattle.command_words.proofs.searching.read_part.Goals.{then-number-lt1-via-then-number-lt1}
use Rattle.command_words.proofs.searching.read_part.Goals.{then-number-lt1-via-else-number-lt1+then-count-number}
use Rattle.command_words.proofs.searching.read_part.Goals.{then-number-lt1-via-else-number-lt1+else-count-number+then-count-gt-MAX_PARTS}

pub returns-in_err-before-clause-none : goal.returns-in_err-before-clause-none
returns-in_err-before-clause-none c =
    rw c.from_residual.ensures (nothing_after_slash c.args.text.now c.in_err-before.ensures.none)

pub returns-in_err-number-clause-none : goal.returns-in_err-number-clause-none
returns-in_err-number-clause-none c =
    rw c.from_residual-in_err-number.ensures
    (λ (r : PartChoice) (h : PartText c.args.text.now r). c.in_err-number.ensures.none r.number
    (subst (λ (t : Text). NumberText t r.number) (sym c.in_ok-before.ensures.before)
    (numbers_of c.args.text.now r h).number))

pub returns-in_err-count-clause-none : goal.returns-in_err-count-clause-none
returns-in_err-count-clause-none c =
    rw c.from_residual-in_err-count.ensures
    (λ (r : PartChoice) (h : PartText c.args.text.now r). c.in_err-count.ensures.none r.count
    (subst (λ (t : Text). NumberText t r.count) (sym c.in_ok-before.ensures.after)
    (numbers_of c.args.text.now r h).count))

pub returns-then-number-lt1-clause-none : goal.returns-then-number-lt1-clause-none
returns-then-number-lt1-clause-none c = λ p h.
    let m = c.in_ok-number.number in
    let n = c.in_ok-count.count in
    let number = subst (λ (t : Text). NumberText t m) c.in_ok-before.ensures.before
    c.in_ok-number.ensures.some in
    let count = subst (λ (t : Text). NumberText t n) c.in_ok-before.ensures.after
    c.in_ok-count.ensures.some in
    let is = part_is c.args.text.now m n p number count h in
    let some : 1 ≤ m = is.0 in
    let within : m ≤ n = is.1 in
    let few = is.2 in
    elim c.then-number-lt1.branch [
      | then-number-lt1-via-then-number-lt1 w ↦ absurd (omega (arith, w.if-number-lt1.true))
      | then-number-lt1-via-else-number-lt1+then-count-number w ↦
          absurd (omega (arith, w.if-count-number.true))
      | then-number-lt1-via-else-number-lt1+else-count-number+then-count-gt-MAX_PARTS w ↦
          absurd (omega (arith, few, w.if-count-gt-MAX_PARTS.true))
    ]
