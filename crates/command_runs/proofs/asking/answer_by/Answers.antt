use Rattle.std.proofs.Common.{◌≡◌, ◌<◌, All, [], ap, ap₂, false, refl, subst, sym, true}
use Rattle.std.proofs.lemmas.List.Elements.{All-nil}
use Rattle.adversary.specs.declared.fault.RunFault.TheVariants as run
use Rattle.command_runs.proofs.Refusing.{err_then, no_plan, no_run, report_from, report_to}
use Rattle.command_runs.proofs.Refusing.{told_after}
use Rattle.command_runs.proofs.Serving.{answered_as}
use Rattle.command_runs.proofs.asking.answer_by.Goals as goal
use Rattle.command_runs.specs.Refused.{IsNotRun, of_read}
use Rattle.command_runs.specs.Served.{Answered}
use Rattle.command_runs.specs.Stages.{StopsSchedule, listed_by}
use Rattle.command_runs.specs.Within.{IsFitRun}
use Rattle.command_runs.specs.declared.asking.Answer.TheVariants as answer
use Rattle.command_runs.specs.declared.asking.Question.{Question}
use Rattle.command_runs.specs.declared.refusal.Refusal.{Refusal}
use Rattle.command_runs.specs.declared.refusal.Refusal.TheVariants as refusal
use Rattle.round_meaning.specs.Setups.{IsLawful}
use Rattle.slot_plans.specs.Named.{kind_of, nodes_of, receives_of, start_of}

pub returns-in_default-clause-refused : goal.returns-in_default-clause-refused
returns-in_default-clause-refused g c =
    let p = c.args.program.now in
    let s = c.args.schedule.setup in
    let k = c.args.schedule.plan in
    let list = listed_by c.args.question in
    let none = no_plan p s k list
    (λ both. let bad : false ≡ true = c.in_default.ensures.within_limits.1 both in absurd (cc bad))
    in
    told_after (λ events x. IsNotRun p s k events list x) s c.args.schedule.reader
    (refusal.Run run.BadSetup) c.bad_setup.result (λ events. none) c.bad_setup.ensures

pub returns-in_err-report-in-Report-clause-refused :
    goal.returns-in_err-report-in-Report-clause-refused
returns-in_err-report-in-Report-clause-refused g c =
    let p = c.args.program.now in
    let s = c.args.schedule.setup in
    let k = c.args.schedule.plan in
    let r = c.args.schedule.reader in
    let fault = c.in_err-report-in-Report.field-0.0 in
    let plan = (c.in-Some.ensures.within_limits.0 refl).1 in
    let as_list = no_run (IsLawful p.values s) p s k r [] fault plan (report_to p.values s)
    (report_from p.values s) c.in_err-report-in-Report.ensures.cause in
    let asked =
    subst (λ (q : Question). StopsSchedule (λ events x. IsNotRun p s k events (listed_by q) x) s
    r (of_read fault)) (sym c.in-Report.is) as_list in
    err_then c.from_residual.result (λ x. x ≡ of_read fault)
    (StopsSchedule (λ events x. IsNotRun p s k events (listed_by c.args.question) x) s r)
    c.from_residual.ensures.1
    (λ x is. subst
    (λ (y : Refusal). StopsSchedule
    (λ events x. IsNotRun p s k events (listed_by c.args.question) x) s r y) (sym is) asked)

pub returns-in_err-verdict-in-Verdict-clause-refused :
    goal.returns-in_err-verdict-in-Verdict-clause-refused
returns-in_err-verdict-in-Verdict-clause-refused g c =
    let p = c.args.program.now in
    let s = c.args.schedule.setup in
    let k = c.args.schedule.plan in
    let r = c.args.schedule.reader in
    let list = c.in-Verdict.terms.correct.now in
    let fault = c.in_err-verdict-in-Verdict.field-0.0 in
    let plan = (c.in-Some.ensures.within_limits.0 refl).1 in
    let as_list = no_run (IsLawful p.values s × All (λ n. n < s.nodes) list) p s k r list fault
    plan (λ h. h) (λ h. h) c.in_err-verdict-in-Verdict.ensures.cause in
    let asked =
    subst (λ (q : Question). StopsSchedule (λ events x. IsNotRun p s k events (listed_by q) x) s
    r (of_read fault)) (sym c.in-Verdict.is) as_list in
    err_then c.from_residual-in_err-verdict-in-Verdict.result (λ x. x ≡ of_read fault)
    (StopsSchedule (λ events x. IsNotRun p s k events (listed_by c.args.question) x) s r)
    c.from_residual-in_err-verdict-in-Verdict.ensures.1
    (λ x is. subst
    (λ (y : Refusal). StopsSchedule
    (λ events x. IsNotRun p s k events (listed_by c.args.question) x) s r y) (sym is) asked)

pub returns-in-Report-clause-answered : goal.returns-in-Report-clause-answered
returns-in-Report-clause-answered g c =
    let p = c.args.program.now in
    let s = c.args.schedule.setup in
    let r = c.args.schedule.reader in
    let made = c.in-Some.ensures.made in
    let said = c.in_ok-report-in-Report.ensures in
    let events = c.in_ok-report-in-Report.journal.log.trace in
    let start = start_of (kind_of c.in-Some.plan) (nodes_of c.in-Some.plan) in
    let receives = receives_of (kind_of c.in-Some.plan) in
    let told = answer.Report c.in_ok-report-in-Report.report c.in-Report.form in
    let fit : IsFitRun p s [] events = record {
      setup = said.lawful;
      listed = All-nil (λ n. n < s.nodes);
      known = said.known;
    } in
    answered_as start receives _ _ p s r c.args.question told (ap₂ start_of made.1 made.0)
    (ap receives_of made.1) (
      events,
      said.read,
      subst (λ (q : Question). Answered start receives p s events q told) (sym c.in-Report.is)
          (refl, fit, said.explained),
    )

pub returns-clause-answered : goal.returns-clause-answered
returns-clause-answered g c =
    let p = c.args.program.now in
    let s = c.args.schedule.setup in
    let r = c.args.schedule.reader in
    let made = c.in-Some.ensures.made in
    let said = c.in_ok-verdict-in-Verdict.ensures in
    let events = c.in_ok-verdict-in-Verdict.journal.log.trace in
    let list = c.in-Verdict.terms.correct.now in
    let start = start_of (kind_of c.in-Some.plan) (nodes_of c.in-Some.plan) in
    let receives = receives_of (kind_of c.in-Some.plan) in
    let told = answer.Verdict c.in_ok-verdict-in-Verdict.verdict c.in-Verdict.format in
    let fit : IsFitRun p s list events = record {
      setup = said.lawful;
      listed = said.listed;
      known = said.known;
    } in
    answered_as start receives _ _ p s r c.args.question told (ap₂ start_of made.1 made.0)
    (ap receives_of made.1) (
      events,
      said.read,
      subst (λ (q : Question). Answered start receives p s events q told) (sym c.in-Verdict.is)
          (refl, fit, said.judged),
    )
