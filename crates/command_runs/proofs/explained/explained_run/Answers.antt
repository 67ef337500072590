use Rattle.std.proofs.Common.{◌∙◌, All, ap, refl, subst}
use Rattle.adversary.specs.Driving.{ClosedAreDue}
use Rattle.omission_explainer.specs.Decided.{AreAgreed, AreInputs}
use Rattle.omission_explainer.specs.InRounds.{IsOfRounds, printed_omits}
use Rattle.omission_explainer.specs.Reported.{IsReported, declared_names, declared_types}
use Rattle.omission_explainer.specs.declared.report.Report.{Report}
use Rattle.round_lang.specs.Syntax.{ProgramTree}
use Rattle.round_meaning.specs.Agreement.{AgreesIn, IsValidIn}
use Rattle.round_meaning.specs.Rounds.{algorithm_of}
use Rattle.round_meaning.specs.declared.setup.Setup.{Setup}
use Rattle.step_book.specs.Agreed.{JournalAgrees}
use Rattle.step_book.specs.Log.{mark_in, waiting_in}
use Rattle.command_runs.proofs.explained.explained_run.Goals as goal

pub returns-clause-explained : goal.returns-clause-explained
returns-clause-explained g c =
    let run = c.in_ok-journal.journal.log in
    let ran = c.in_ok-journal.ensures in
    let said = c.in_ok-report.ensures in
    let rows = c.in_ok-report.report.rows in
    let of_program =
    subst (λ p. All (IsOfRounds (algorithm_of p run.setup) (printed_omits rows)) rows)
    ran.program said.in_rounds in record {
      so_far = record {
        run = run;
        program = ran.program;
        setup = ran.setup;
        trace = refl;
        agrees = subst
            (λ p. JournalAgrees (g.P.Plan.start p) run (mark_in (g.P.Plan.start p) run)
            (waiting_in (g.P.Plan.start p) run)) ran.plan c.agrees.ensures;
        values = said.values ∙ ap (λ (p : ProgramTree). p.values) ran.program;
        names = said.names ∙ ap declared_names ran.program;
        types = said.types ∙ ap declared_types ran.program;
        listed = said.listed;
        reported =
            subst (λ p. All (IsReported (g.P.Plan.start p) run) rows) ran.plan said.reported;
        in_rounds =
            subst (λ s. All (IsOfRounds (algorithm_of c.args.program.now s) (printed_omits rows))
            rows) ran.setup of_program;
        counted = said.counted;
      };
      closed = subst (λ p. ClosedAreDue (g.P.Plan.start p) run) ran.plan ran.closed;
    }

-- what a report says of the decisions of its own run
abbrev Agrees : Report → ProgramTree → Setup → Type 0
Agrees report p s = AgreesIn p s (printed_omits report.rows) → AreAgreed report.rows

abbrev Inputs : Report → ProgramTree → Setup → Type 0
Inputs report p s = IsValidIn p s (printed_omits report.rows) → AreInputs s report.rows

pub returns-clause-agreement : goal.returns-clause-agreement
returns-clause-agreement g c =
    let ran = c.in_ok-journal.ensures in
    let report = c.in_ok-report.report in
    subst (λ s. Agrees report c.args.program.now s) ran.setup
    (subst (λ p. Agrees report p c.in_ok-journal.journal.log.setup) ran.program
    c.in_ok-report.ensures.agreement)

pub returns-clause-validity : goal.returns-clause-validity
returns-clause-validity g c =
    let ran = c.in_ok-journal.ensures in
    let report = c.in_ok-report.report in
    subst (λ s. Inputs report c.args.program.now s) ran.setup
    (subst (λ p. Inputs report p c.in_ok-journal.journal.log.setup) ran.program
    c.in_ok-report.ensures.validity)
