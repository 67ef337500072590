use Rattle.std.proofs.Common.{◌≡◌, ◌<◌, ap₂, false, refl, subst, sym, true}
use Rattle.std.proofs.lemmas.List.Elements.{All-nil}
use Rattle.std.proofs.lemmas.Result.{IfErr-weaker}
use Rattle.adversary.specs.declared.fault.RunFault.TheVariants as run
use Rattle.command_runs.proofs.Drawn.{drawn_always, drawn_as, no_picture, undrawn_read}
use Rattle.command_runs.proofs.Drawn.{undrawn_report}
use Rattle.command_runs.proofs.Refusing.{err_then, told_after}
use Rattle.command_runs.proofs.drawing.draw_by.Goals as goal
use Rattle.command_runs.specs.Refused.{IsNotDrawn, of_read}
use Rattle.command_runs.specs.Stages.{StopsSchedule}
use Rattle.command_runs.specs.declared.refusal.Refusal.{Refusal}
use Rattle.command_runs.specs.declared.refusal.Refusal.TheVariants as refusal
use Rattle.slot_plans.specs.Named.{start_of}

pub returns-in_default-clause-refused : goal.returns-in_default-clause-refused
returns-in_default-clause-refused g c =
    let p = c.args.program.now in
    let s = c.args.schedule.setup in
    let k = c.args.schedule.plan in
    let d = c.args.sheet.drawing.now in
    let none = no_picture p s k d
    (λ both. let bad : false ≡ true = c.in_default.ensures.within_limits.1 both in absurd (cc bad))
    in
    told_after (λ events x. IsNotDrawn p s k events d x) s c.args.schedule.reader
    (refusal.Run run.BadSetup) c.bad_setup.result (λ events. none) c.bad_setup.ensures

pub returns-in_default-view_of-clause-refused : goal.returns-in_default-view_of-clause-refused
returns-in_default-view_of-clause-refused g c =
    let p = c.args.program.now in
    let s = c.args.schedule.setup in
    let k = c.args.schedule.plan in
    let d = c.args.sheet.drawing.now in
    told_after (λ events x. IsNotDrawn p s k events d x) s c.args.schedule.reader
    (refusal.Run run.BadSetup) c.bad_setup-in_default-view_of.result
    (λ events is. c.in_default-view_of.ensures.none p.values (is.setup, is.shown))
    c.bad_setup-in_default-view_of.ensures

pub returns-in_err-report-clause-refused : goal.returns-in_err-report-clause-refused
returns-in_err-report-clause-refused g c =
    let p = c.args.program.now in
    let s = c.args.schedule.setup in
    let k = c.args.schedule.plan in
    let r = c.args.schedule.reader in
    let d = c.args.sheet.drawing.now in
    let plan = (c.in-Some.ensures.within_limits.0 refl).1 in
    let stops = StopsSchedule (λ events x. IsNotDrawn p s k events d x) s r in
    let fault = c.in_err-report.field-0.0 in
    err_then c.from_residual.result (λ x. x ≡ of_read fault) stops c.from_residual.ensures.1
    (λ x is. subst (λ (y : Refusal). stops y) (sym is)
    (undrawn_read p s k r d plan c.in-Some-view_of.ensures.some fault
    c.in_err-report.ensures.cause))

pub returns-clause-drawn : goal.returns-clause-drawn
returns-clause-drawn g c =
    let p = c.args.program.now in
    let s = c.args.schedule.setup in
    let said = c.in_ok-report.ensures in
    let made = c.in-Some.ensures.made in
    drawn_always c.draw_report-picture.result
    (drawn_as _ _ p s c.args.schedule.reader c.args.sheet.drawing.now (ap₂ start_of made.1 made.0) (
      c.in_ok-report.journal.log.trace,
      c.in_ok-report.report,
      said.read,
      c.in-Some-view_of.ensures.some,
      record {
        setup = said.lawful;
        listed = All-nil (λ n. n < s.nodes);
        known = said.known;
      },
      said.explained,
    ))

pub returns-clause-refused : goal.returns-clause-refused
returns-clause-refused g c =
    let p = c.args.program.now in
    let s = c.args.schedule.setup in
    let k = c.args.schedule.plan in
    let r = c.args.schedule.reader in
    let d = c.args.sheet.drawing.now in
    let plan = (c.in-Some.ensures.within_limits.0 refl).1 in
    let said = c.in_ok-report.ensures in
    IfErr-weaker c.draw_report-picture.result _ _
    (λ x is. undrawn_report p s k r d plan c.in-Some-view_of.ensures.some x
    (c.in_ok-report.journal.log.trace, said.read) is) c.draw_report-picture.ensures
