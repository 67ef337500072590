use Rattle.std.proofs.Common.{◌≡◌, ◌≢◌, ◌∙◌, ◌+◌, All, List, ap, subst, inl, inr, ℕ, ◌<◌, length}
use Rattle.std.proofs.Common.{arith, refl}
use Rattle.std.specs.Prelude.{◌↔◌, IsTrue, string_bytes}
use Rattle.std.proofs.lemmas.Bool.{cases_lt}
use Rattle.node_threads.specs.Ends.{AreBehind, HaveEnded, IsFitForThreads}
use Rattle.node_threads.specs.declared.ended.Ended.TheVariants.{NoMemory}
use Rattle.omission_explainer.specs.Decided.{AreAgreed, AreInputs}
use Rattle.omission_explainer.specs.InRounds.{IsOfRounds, printed_omits}
use Rattle.omission_explainer.specs.Reported.{IsReported, declared_names, declared_types}
use Rattle.omission_explainer.specs.declared.report.Report.{Report}
use Rattle.round_lang.specs.Syntax.{ProgramTree}
use Rattle.round_meaning.specs.Agreement.{AgreesIn, IsValidIn}
use Rattle.round_meaning.specs.Rounds.{algorithm_of}
use Rattle.round_meaning.specs.declared.setup.Setup.{Setup}
use Rattle.schedule_text.specs.declared.pace.Stop.{Stop}
use Rattle.schedule_text.specs.Texts.{Says}
use Rattle.schedule_text.specs.Writing.{text_of}
use Rattle.step_book.specs.Agreed.{JournalAgrees}
use Rattle.step_book.specs.Log.{Recorded, mark_in, waiting_in}
use Rattle.command_runs.proofs.threads.explained_threads.Goals as goal

-- a number that can't be 0 isn't
some : (n : ℕ) → ¬ ¬ (0 < n) → 0 < n
some n h =
    elim (cases_lt 0 n) [
      | inl above ↦ above
      | inr none ↦ absurd (h (λ above. omega (arith, above, none)))
    ]

-- a lawful setup has an input
has_input : (values : ℕ) (s : Setup) (stops : List Stop) → IsFitForThreads values s stops
    → 0 < length s.inputs
has_input values s stops fit =
    let nodes : 0 < s.nodes = fit.lawful.sized.some_node in
    let inputs : length s.inputs ≡ s.nodes = fit.lawful.sized.inputs in omega (nodes, inputs, arith)

pub returns-clause-explained : goal.returns-clause-explained
returns-clause-explained g c =
    let start = g.P.Plan.start in
    let t = c.args.setup.now in
    let run = c.in_ok-journal.journal.log in
    let ran = c.in_ok-journal.ensures in
    let said = c.in_ok-report.ensures in
    let rows = c.in_ok-report.report.rows in
    let text = string_bytes c.in_ok-trace.trace in
    let stops = c.as_slice-stops.ensures.value in
    let had = subst (λ es. IsTrue c.had_memory.result ↔ All (λ e. e ≢ NoMemory) es)
    c.deref.ensures.value c.had_memory.ensures in
    let of_program =
    subst (λ p. All (IsOfRounds (algorithm_of p run.setup) (printed_omits rows)) rows)
    ran.program said.in_rounds in
    let same = c.trace.ensures.value ∙ ap (λ (x : Recorded _). x.log.trace) c.book.ensures in
    let fit : ¬ ¬ (IsFitForThreads c.args.program.now.values t.setup c.as_slice-stops.result.now) =
    λ none. cc (ran.bad_setup.1 none) in
    let inputs : 0 < length t.setup.inputs =
    some (length t.setup.inputs) (λ none. fit (λ is. none (has_input _ _ _ is))) in (
      run.trace,
      record {
        told = record {
          run = run;
          program = ran.program;
          setup = ran.setup;
          trace = refl;
          agrees = subst
              (λ p. JournalAgrees (start p) run (mark_in (start p) run) (waiting_in (start p) run))
              ran.plan c.agrees.ensures;
          values = said.values ∙ ap (λ (p : ProgramTree). p.values) ran.program;
          names = said.names ∙ ap declared_names ran.program;
          types = said.types ∙ ap declared_types ran.program;
          listed = said.listed;
          reported = subst (λ p. All (IsReported (start p) run) rows) ran.plan said.reported;
          in_rounds =
              subst (λ s. All (IsOfRounds (algorithm_of c.args.program.now s) (printed_omits rows))
              rows) ran.setup of_program;
          counted = said.counted;
        };
        ends = c.in_ok-journal.ends.items;
        ended = subst (λ ss. HaveEnded (start c.args.plan) run ss c.in_ok-journal.ends.items) stops
            ran.ends;
        behind = subst (λ ss. AreBehind (start c.args.plan (t.setup.rounds + 1)) ss
            c.in_ok-journal.ends.items) stops ran.behind;
        memory = had;
        closed = λ whole. ran.closed (had.0 whole);
      },
      record {
        spelled = c.in_ok-trace.ensures.spelled ∙ ap (text_of t.setup t.plan) same;
        read_back = λ short. subst (λ es. Says text t.setup t.plan es) same
            (c.in_ok-trace.ensures.read_back inputs short);
      },
    )

-- what a report says of the decisions of its own run
abbrev Agrees : Report → ProgramTree → Setup → Type 0
Agrees report p s = AgreesIn p s (printed_omits report.rows) → AreAgreed report.rows

abbrev Inputs : Report → ProgramTree → Setup → Type 0
Inputs report p s = IsValidIn p s (printed_omits report.rows) → AreInputs s report.rows

pub returns-clause-agreement : goal.returns-clause-agreement
returns-clause-agreement g c =
    let ran = c.in_ok-journal.ensures in
    let report = c.in_ok-report.report in
    subst (λ s. Agrees report c.args.program.now s) ran.setup
    (subst (λ p. Agrees report p c.in_ok-journal.journal.log.setup) ran.program
    c.in_ok-report.ensures.agreement)

pub returns-clause-validity : goal.returns-clause-validity
returns-clause-validity g c =
    let ran = c.in_ok-journal.ensures in
    let report = c.in_ok-report.report in
    subst (λ s. Inputs report c.args.program.now s) ran.setup
    (subst (λ p. Inputs report p c.in_ok-journal.journal.log.setup) ran.program
    c.in_ok-report.ensures.validity)
