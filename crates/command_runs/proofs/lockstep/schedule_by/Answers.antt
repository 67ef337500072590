use Rattle.std.proofs.Common.{◌≡◌, ap₂, refl, subst, sym}
use Rattle.command_runs.specs.IdleTexts.{schedule_text}
use Rattle.command_runs.specs.InChanges.{terms_of}
use Rattle.command_runs.specs.InLockstep.{IsLockstepText}
use Rattle.command_runs.specs.Refused.{IsNotMade, of_run}
use Rattle.command_runs.proofs.Refusing.{err_then}
use Rattle.command_runs.proofs.Unmade.{not_made}
use Rattle.command_runs.proofs.lockstep.schedule_by.Goals as goal
use Rattle.slot_plans.specs.Named.{start_of}

pub returns-clause-made : goal.returns-clause-made
returns-clause-made c =
    let a = c.args.asked.now in
    let t = terms_of c.args.pacing in
    let made = c.in-Some.ensures.made in
    let ran = c.in_ok-lockstep_schedule in
    subst (λ f. IsLockstepText f a.program a.setup a.plan a.omissions t
    (schedule_text ran.field-0)) (ap₂ start_of made.1 made.0) ran.ensures.made

pub returns-in_err-lockstep_schedule-clause-refused :
    goal.returns-in_err-lockstep_schedule-clause-refused
returns-in_err-lockstep_schedule-clause-refused c =
    let a = c.args.asked.now in
    let t = terms_of c.args.pacing in
    let made = c.in-Some.ensures.made in
    let fault = c.in_err-lockstep_schedule.field-0.0 in
    let cause = IsNotMade a.program a.setup a.plan a.omissions t in
    err_then c.from_residual.result (λ r. r ≡ of_run fault) cause c.from_residual.ensures.1
    (λ r is. subst cause (sym is)
    (not_made _ a.program a.setup a.plan a.omissions t fault (ap₂ start_of made.1 made.0)
    (c.in-Some.ensures.within_limits.0 refl).1 c.in_err-lockstep_schedule.ensures.cause))
