use Rattle.std.proofs.Common.{◌≤◌, arith, subst, sym}
use Rattle.clap.specs.Words.{Text}
use Rattle.command_words.specs.Values.{NumberText, RangeText}
use Rattle.command_words.specs.declared.drawing.RoundRange.{RoundRange}
use Rattle.command_words.proofs.RangeLemmas.{nothing_after_dash, range_is, range_parts}
use Rattle.command_words.proofs.drawing.read_range.Goals as goal
use Rattle.command_words.proofs.drawing.read_range.Goals.{then-first-lt1-via-then-first-lt1}
use Rattle.command_words.proofs.drawing.read_range.Goals.{then-first-lt1-via-else-first-lt1+then-last-first}

pub returns-in_err-before-clause-none : goal.returns-in_err-before-clause-none
returns-in_err-before-clause-none c =
    rw c.from_residual.ensures (nothing_after_dash c.args.text.now c.in_err-before.ensures.none)

pub returns-in_err-first-clause-none : goal.returns-in_err-first-clause-none
returns-in_err-first-clause-none c =
    rw c.from_residual-in_err-first.ensures
    (λ (r : RoundRange) (h : RangeText c.args.text.now r). c.in_err-first.ensures.none r.first
    (subst (λ (t : Text). NumberText t r.first) (sym c.in_ok-before.ensures.before)
    (range_parts c.args.text.now r h).first))

pub returns-in_err-last-clause-none : goal.returns-in_err-last-clause-none
returns-in_err-last-clause-none c =
    rw c.from_residual-in_err-last.ensures
    (λ (r : RoundRange) (h : RangeText c.args.text.now r). c.in_err-last.ensures.none r.last
    (subst (λ (t : Text). NumberText t r.last) (sym c.in_ok-before.ensures.after)
    (range_parts c.args.text.now r h).last))

pub returns-then-first-lt1-clause-none : goal.returns-then-first-lt1-clause-none
returns-then-first-lt1-clause-none c = λ r h.
    let m = c.in_ok-first.first in
    let n = c.in_ok-last.last in
    let first = subst (λ (t : Text). NumberText t m) c.in_ok-before.ensures.before
    c.in_ok-first.ensures.some in
    let last = subst (λ (t : Text). NumberText t n) c.in_ok-before.ensures.after
    c.in_ok-last.ensures.some in
    let is = range_is c.args.text.now m n r first last h in
    let some : 1 ≤ m = is.0 in
    let rising : m ≤ n = is.1 in
    elim c.then-first-lt1.branch [
      | then-first-lt1-via-then-first-lt1 w ↦
          absurd (omega (arith, w.if-first-lt1.true))
      | then-first-lt1-via-else-first-lt1+then-last-first w ↦
          absurd (omega (arith, w.if-last-first.true))
    ]
