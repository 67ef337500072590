use Rattle.std.proofs.Common.{◌≡◌, ◌∙◌, All, Ok, ap, false, subst, sym, true}
use Rattle.adversary.specs.Driving.{IsKnown}
use Rattle.adversary.specs.Reading.{IsScheduleOf}
use Rattle.adversary.specs.declared.fault.ReadFault.TheVariants as fault
use Rattle.adversary.proofs.ReadRuns.{read_on, read_run, read_whole, refused_text, stopped, unfit}
use Rattle.adversary.proofs.read.run_read.Goals as goal
use Rattle.round_meaning.specs.Setups.{IsLawful}
use Rattle.step_book.proofs.Closing.{err_given}

pub returns-then-not-is_lawful-clause-cause : goal.returns-then-not-is_lawful-clause-cause
returns-then-not-is_lawful-clause-cause g c =
    let Fits = IsLawful c.args.program.now.values c.args.setup.now in
    let none : ¬ Fits = λ fits. let bad : false ≡ true = sym c.if-not-is_lawful.true
    ∙ c.is_lawful.ensures.1 fits in absurd (cc bad) in
    unfit Fits c.args.setup.now c.args.reader c.refused_after.result none c.refused_after.ensures

pub returns-in-Err-clause-cause : goal.returns-in-Err-clause-cause
returns-in-Err-clause-cause g c =
    stopped c.args.program.now c.args.setup.now c.args.plan c.args.reader c.loop-next.driver
    c.loop-next.reader (IsLawful c.args.program.now.values c.args.setup.now)
    c.events.result.now c.in-Err.fault c.refused_after-in-Err.result
    (c.is_lawful.ensures.0 c.if-not-is_lawful.false) c.events.ensures c.in-Err.ensures.cause
    c.refused_after-in-Err.ensures c.loop-next.invariant

pub returns-in_err-advance-clause-cause : goal.returns-in_err-advance-clause-cause
returns-in_err-advance-clause-cause g c =
    let e = c.in_err-advance.field-0.0 in
    let out = read_run c.args.program.now c.args.setup.now c.args.plan c.args.reader
    c.loop-next.driver c.loop-next.reader c.in-Ok.next c.events.result.now c.events.ensures
    c.in-Ok.ensures.plan c.in-Ok.ensures.log c.in-Ok.ensures.known c.loop-next.invariant in
    err_given c.from_residual-in_err-advance.result
    (fault.Text e) _ c.from_residual-in_err-advance.ensures.1
    (refused_text c.args.program.now c.args.setup.now c.args.plan c.args.reader c.in-Ok.next
    c.loop-next.reader (IsLawful c.args.program.now.values c.args.setup.now) e
    c.in_err-advance.ensures.refused out)

pub returns-then-not-branch-clause-known : goal.returns-then-not-branch-clause-known
returns-then-not-branch-clause-known g c =
    let out = read_run c.args.program.now c.args.setup.now c.args.plan c.args.reader
    c.loop-next.driver c.loop-next.reader c.in-Ok.next c.events.result.now c.events.ensures
    c.in-Ok.ensures.plan c.in-Ok.ensures.log c.in-Ok.ensures.known c.loop-next.invariant in
    subst (λ j. All (IsKnown c.args.setup.now) j.log.trace)
    (sym c.into_journal.ensures.same) out.known

pub returns-then-not-branch-clause-read : goal.returns-then-not-branch-clause-read
returns-then-not-branch-clause-read g c =
    let out = read_run c.args.program.now c.args.setup.now c.args.plan c.args.reader
    c.loop-next.driver c.loop-next.reader c.in-Ok.next c.events.result.now c.events.ensures
    c.in-Ok.ensures.plan c.in-Ok.ensures.log c.in-Ok.ensures.known c.loop-next.invariant in
    subst (λ j. IsScheduleOf c.args.setup.now c.args.reader j.log.trace)
    (sym c.into_journal.ensures.same)
    (read_whole c.args.program.now c.args.setup.now c.args.plan c.args.reader c.in-Ok.next
    c.loop-next.reader (c.in_ok-advance.ensures.ended (ap Ok c.if-not-branch.true)) out)

pub loop-next-preserved : goal.loop-next-preserved
loop-next-preserved g c =
    let out = read_run c.args.program.now c.args.setup.now c.args.plan c.args.reader
    c.loop-next.driver c.loop-next.reader c.in-Ok.next c.events.result.now c.events.ensures
    c.in-Ok.ensures.plan c.in-Ok.ensures.log c.in-Ok.ensures.known c.loop-next.invariant in
    read_on c.args.program.now c.args.setup.now c.args.plan c.args.reader c.in-Ok.next
    c.loop-next.reader c.advance.new.self
    (c.in_ok-advance.ensures.read (ap Ok c.if-not-branch.false)) out
