use Rattle.std.proofs.Common.{
  ◌≡◌,
  ◌∙◌,
  ◌+◌,
  All,
  ap,
  arith,
  inr,
  length,
  length-append,
  rules,
  subst,
  sym,
}
use Rattle.adversary.specs.Driving.{IsKnown, IsUnknownPast}
use Rattle.adversary.proofs.ReadRuns.{begins_cause}
use Rattle.adversary.proofs.Unknown.{known_whole, unknown_late}
use Rattle.adversary.proofs.read.run_on.Goals as goal
use Rattle.step_book.proofs.Closing.{err_given}

pub returns-in_err-next-clause-cause : goal.returns-in_err-next-clause-cause
returns-in_err-next-clause-cause g c =
    let s = c.args.driver.log.setup in
    let n = length c.args.driver.log.trace in
    err_given c.from_residual.result c.in_err-next.field-0.0 _ c.from_residual.ensures.1
    (begins_cause s n c.parts.result.0.now c.parts.result.1.now c.args.events.now
    c.in_err-next.field-0.0 c.parts.ensures.all c.in_err-next.ensures.cause)

pub returns-in-Some-clause-cause : goal.returns-in-Some-clause-cause
returns-in-Some-clause-cause g c =
    let s = c.args.driver.log.setup in
    let n = length c.args.driver.log.trace in
    let m = length c.trace.result.now in
    let stored = c.parts.result.0.now in
    let whole = c.parts.result.1.now in
    let f = c.unknown_at.result in
    let same = ap length (c.trace.ensures.value
    ∙ ap (λ b. b.log.trace) (c.book.ensures ∙ c.journal.ensures)
    ∙ c.in_ok-next.ensures.log.trace) in
    let counted : m ≡ n + length stored = omega (
      arith,
      same,
      length-append c.args.driver.log.trace stored,
    ) in
    inr (subst (λ es. IsUnknownPast s n es f) (sym c.parts.ensures.all)
    (unknown_late s n m stored whole c.in-Some.event.now f c.requires c.parts.ensures.late
    (search rules) (search rules) counted c.in_ok-next.ensures.known c.unknown_at.ensures))

pub returns-in-None-clause-known : goal.returns-in-None-clause-known
returns-in-None-clause-known g c =
    let s = c.args.driver.log.setup in
    let stored = c.parts.result.0.now in
    let whole = c.parts.result.1.now in
    let none : length whole ≡ 0 = search rules in
    subst (All (IsKnown s)) (sym c.parts.ensures.all)
    (known_whole s stored whole none c.in_ok-next.ensures.known)
