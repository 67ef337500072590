-- What a yes says of the report of a run that the question covers, and which such runs are clear.
use Rattle.std.proofs.Common.{◌≡◌, ◌⊎◌, ◌∙◌, ℕ, ◌<◌, ◌≤◌, true, List}
use Rattle.std.proofs.Common.{Some, sym, subst, ap, arith, inl, inr, map, refl, replicate, suc}
use Rattle.std.proofs.Common.{zero}
use Rattle.std.specs.Prelude.{All, Contains, IfSome, IsSome, IsTrue, slice_index}
use Rattle.std.specs.Prelude.{nat_eq, reverse, slice_index_or}
use Rattle.std.specs.List.{count_by, range_with_len}
use Rattle.std.proofs.lemmas.Bool.{both_ways, cases_lt, eq-eqb}
use Rattle.std.proofs.lemmas.List.{length-replicate}
use Rattle.std.proofs.lemmas.List.Elements.{All-contains, All-filter, All-replicate}
use Rattle.std.proofs.lemmas.List.Folds.{list_any_at}
use Rattle.std.proofs.lemmas.List.FromFn.{length-range_with_len}
use Rattle.std.proofs.lemmas.List.Sums.{count_by-le-length}
use Rattle.answer_laws.specs.EveryReport.{HoldsOfRows, YesIsOfEveryReport}
use Rattle.command_runs.specs.Explained.{IsReportSoFar, IsVerdictOf}
use Rattle.omission_explainer.specs.InRounds.{printed_omits}
use Rattle.omission_explainer.specs.Reported.{IsReported, closed_below, closed_rounds, is_closed}
use Rattle.omission_explainer.specs.Reported.{omitted_in, place}
use Rattle.omission_explainer.specs.Rows.{ClosedRound}
use Rattle.omission_explainer.specs.Verdict.{HearsFrom}
use Rattle.omission_explainer.specs.declared.judging.Verdict.{Verdict}
use Rattle.omission_explainer.specs.declared.report.Report.{Report}
use Rattle.round_explorer.specs.Answers.{AllHoldUpTo, in_rounds, with_inputs}
use Rattle.round_explorer.specs.OpenQuestions.{IsSetupOf}
use Rattle.round_explorer.specs.Properties.{Counts}
use Rattle.round_explorer.specs.Questions.{HasStopped, IsOfKind, IsPattern, IsTable, IsUnclear}
use Rattle.round_explorer.specs.Questions.{Messages, failure_of, is_faulty}
use Rattle.round_explorer.specs.declared.property.Property.{Property}
use Rattle.round_explorer.specs.declared.property.Property.TheVariants.{Termination}
use Rattle.round_explorer.specs.declared.question.AskedInputs.{AskedInputs}
use Rattle.round_explorer.specs.declared.question.Failure.{Failure}
use Rattle.round_explorer.specs.declared.question.Failure.TheVariants.{Never}
use Rattle.round_explorer.specs.declared.question.Question.{Question}
use Rattle.round_explorer.proofs.OpenQuestions.{never_fails}
use Rattle.round_lang.specs.Sets.{is_in}
use Rattle.round_lang.specs.Syntax.{ProgramTree}
use Rattle.round_meaning.specs.Rounds.{algorithm, algorithm_of, rounds}
use Rattle.round_meaning.specs.Turn.{decision}
use Rattle.round_meaning.specs.declared.setup.Setup.{Setup}
use Rattle.run_events.specs.declared.event.Event.{Event}
use Rattle.slot_plans.specs.Plan.{PlanLaws}
use Rattle.step_book.specs.Log.{Log, count_of, round_of}
use Rattle.step_book.specs.Trace.{steps}
use Rattle.answer_laws.specs.Asked.{ClearRunsAreAsked, IsAskedAbout, OpenRunsAreAsked}
use Rattle.answer_laws.specs.Asked.{TerminationIsOfAskedReports, YesInAllRoundsIsOfAskedReports}
use Rattle.answer_laws.specs.Asked.{YesInAllRoundsIsOfEveryReport, YesIsOfAskedReports}
use Rattle.answer_laws.proofs.Members.{all_flat, all_made, all_range}
use Rattle.answer_laws.proofs.OneReport.{of_events}
use Rattle.answer_laws.proofs.Printed.{IsPrintedIn, printed_from}
use Rattle.answer_laws.proofs.Rows.{IsOfRun, holds_of_rows, other_rounds}

-- ---- rows of a report

-- each row is of one of the run's rounds
pub rows_past : (start : ℕ → ℕ) (p : ProgramTree) (like : Setup) (events : List Event)
    (report : Report) → IsReportSoFar start p like events report
    → All (λ (row : ClosedRound). row.round ≤ like.rounds) report.rows
rows_past start p like events report told =
    let v = told.run in
    let Early : ℕ × ℕ → Type 0 = λ at. at.0 ≤ v.setup.rounds in
    let early : All Early (closed_rounds v) =
    all_flat Early (closed_below v v.setup.nodes) 1 v.setup.rounds (λ r low high.
    All-filter (is_closed v) Early (map (λ i. (r, i)) (range_with_len 0 v.setup.nodes))
    (all_range Early (λ i. (r, i)) 0 v.setup.nodes (λ i first past. omega arith))) in
    subst (λ (z : Setup). All (λ (row : ClosedRound). row.round ≤ z.rounds) report.rows) told.setup
    (all_made Early place report.rows (subst (All Early) (sym told.listed) early))

-- ---- a yes

module _ (start : ℕ → ℕ) (p : ProgramTree) (s like : Setup) (question : Question)
    (asked : AskedInputs) (pattern : List Failure) (events : List Event) (report : Report)
    (is : IsAskedAbout p s question asked like pattern report.rows)
    (told : IsReportSoFar start p like events report) where
  abbrev setup : Setup
  setup = with_inputs s like.inputs

  same_algorithm : algorithm_of p like ≡ algorithm_of p setup
  same_algorithm =
      ap (λ n. algorithm p n like.faults (slice_index like.inputs)) is.setup.nodes
      ∙ ap (λ t. algorithm p s.nodes t (slice_index like.inputs)) is.setup.faults

  all_of_run : All (IsOfRun p setup pattern is.omits s.rounds) report.rows
  all_of_run = λ k d l.
      let row = slice_index_or report.rows k d in
      let reported = told.reported k d l in
      let past = rows_past start p like events report told k d l in
      let node = reported.node in
      let nodes : told.run.setup.nodes ≡ like.nodes = ap (λ (z : Setup). z.nodes) told.setup in
      record {
        node = omega (arith, node, nodes, is.setup.nodes);
        begun = omega (arith, reported.first);
        past = omega (arith, past, is.setup.rounds);
        counts = is.counts k d l;
        decided = subst (λ q. row.decision ≡ decision q row.state) told.program reported.decided;
        stated = is.in_rounds k d l
            ∙ ap (λ a. rounds a is.omits row.round row.node) same_algorithm;
      }

  to_like : (property : Property) → HoldsOfRows property p setup report.rows
      → HoldsOfRows property p like report.rows
  to_like property h =
      subst (λ n. HoldsOfRows property p (record like { nodes = n }) report.rows)
      (sym is.setup.nodes)
      (subst (λ t. HoldsOfRows property p (record like { nodes = s.nodes; faults = t })
      report.rows) (sym is.setup.faults)
      (other_rounds p setup like.rounds property report.rows h))

  yes : (property : Property) → AllHoldUpTo p s question asked property s.rounds
      → HoldsOfRows property p like report.rows
  yes property all = to_like property (holds_of_rows p setup pattern is.omits s.rounds property
      report.rows all_of_run (λ other. all like.inputs pattern is.omits is.run))

  decides : AllHoldUpTo p s question asked Termination s.rounds
      → All (λ (row : ClosedRound). row.round ≡ s.rounds → failure_of pattern row.node ≡ Never
      → IsSome row.decision) report.rows
  decides all = λ k d l last never.
      let row = slice_index_or report.rows k d in
      let of = all_of_run k d l in
      let some = all like.inputs pattern is.omits is.run refl row.node of.node never in
      subst IsSome (sym (of.decided ∙ ap (decision p) of.stated
      ∙ ap (λ r. decision p (rounds (algorithm_of p setup) is.omits r row.node)) last)) some

pub yes_is_of_asked_reports : YesIsOfAskedReports
yes_is_of_asked_reports start p s like question asked property pattern events report is all told =
    yes start p s like question asked pattern events report is told property all

pub yes_in_all_rounds : YesInAllRoundsIsOfAskedReports
yes_in_all_rounds start p s like question asked property pattern events report is all told =
    yes start p (in_rounds s like.rounds) like question asked pattern events report is told property
    (all like.rounds)

pub termination_is_of_asked_reports : TerminationIsOfAskedReports
termination_is_of_asked_reports start p s like question asked pattern events report is all told =
    decides start p s like question asked pattern events report is told all

-- ---- runs in which nobody fails

none_faulty : (n : ℕ) → count_by is_faulty (replicate n Never) ≡ 0
none_faulty zero = refl
none_faulty (suc n) = none_faulty n

module _ (question : Question) (s : Setup) where
  never_pattern : IsPattern question s (replicate s.nodes Never)
  never_pattern = record {
    each_node = length-replicate s.nodes Never;
    kinds = All-replicate (IsOfKind question.faults s.rounds) s.nodes Never tt;
    few = omega (arith, none_faulty s.nodes);
  }

  never_table : (omits : Messages) → question.hears ≡ 0
      → ((i r j : ℕ) → i < s.nodes → j < s.nodes → 1 ≤ r → omits i r j ≡ true
      → IsUnclear question.clear r)
      → IsTable question s.nodes (replicate s.nodes Never) s.rounds omits
  never_table omits quiet unclear i r known first past = record {
    only = λ j sender e. inl (unclear i r j known sender first e);
    stopped = λ j sender h. absurd (subst (λ failure. HasStopped failure r)
        (never_fails s.nodes j sender) h);
    heard = omega (
      arith,
      count_by-le-length (omits i r) (range_with_len 0 s.nodes),
      length-range_with_len 0 s.nodes,
      quiet,
    );
  }

  never_asked : (start : ℕ → ℕ) (p : ProgramTree) (like : Setup) (asked : AskedInputs)
      (events : List Event) (report : Report) → IsSetupOf p.values s asked like
      → IsReportSoFar start p like events report → question.hears ≡ 0
      → ((i r j : ℕ) → i < s.nodes → j < s.nodes → 1 ≤ r
      → printed_omits report.rows i r j ≡ true → IsUnclear question.clear r)
      → IsAskedAbout p s question asked like (replicate s.nodes Never) report.rows
  never_asked start p like asked events report is told quiet unclear = record {
    omits = printed_omits report.rows;
    setup = is;
    run = record {
      are_asked = is.inputs;
      is_pattern = never_pattern;
      is_table = never_table (printed_omits report.rows) quiet unclear;
    };
    in_rounds = told.in_rounds;
    counts = λ k d l.
        let row = slice_index_or report.rows k d in
        let reported = told.reported k d l in
        let nodes : told.run.setup.nodes ≡ like.nodes = ap (λ (z : Setup). z.nodes) told.setup in
        subst (λ failure. Counts failure row.round)
        (sym (never_fails s.nodes row.node (omega (arith, reported.node, nodes, is.nodes)))) tt;
  }

pub open_runs_are_asked : OpenRunsAreAsked
open_runs_are_asked start p s like question asked events report free is told =
    never_asked question s start p like asked events report is told free.hears
    (λ i r j known sender first e. subst (λ clear. IsUnclear clear r) (sym free.clear) tt)

pub every_report_in_all_rounds : YesInAllRoundsIsOfEveryReport
every_report_in_all_rounds start p s like question asked property events report free is all told =
    yes_in_all_rounds start p s like question asked property (replicate s.nodes Never) events report
    (open_runs_are_asked start p (in_rounds s like.rounds) like question asked events report free is
    told) all told

pub yes_is_of_every_report : YesIsOfEveryReport
yes_is_of_every_report start p s like question asked property events report free is all told =
    yes_is_of_asked_reports start p s like question asked property (replicate s.nodes Never) events
    report (open_runs_are_asked start p s like question asked events report free is told) all told

-- ---- clear runs

omitted_by_events : (start : ℕ → ℕ) (p : ProgramTree) (s : Setup) (events : List Event) (v : Log)
    (r i : ℕ) → v.program ≡ p → v.setup ≡ s → v.trace ≡ events
    → omitted_in start v r i ≡ omitted_in start (of_events p s events) r i
omitted_by_events start p s events v r i program setup trace =
    ap (λ z. omitted_in start (of_events z v.setup v.trace) r i) program
    ∙ ap (λ z. omitted_in start (of_events p z v.trace) r i) setup
    ∙ ap (λ z. omitted_in start (of_events p s z) r i) trace

module _ (start receives : ℕ → ℕ) (p : ProgramTree) (like : Setup) (events : List Event)
    (report : Report) (list : List ℕ) (delta gst first : ℕ) (v : Verdict)
    (laws : PlanLaws like.nodes receives start)
    (told : IsReportSoFar start p like events report)
    (judged : IsVerdictOf start receives p like events list delta gst v)
    (all : (i : ℕ) → i < like.nodes → Contains list i)
    (lockstep : IsTrue v.lockstep) (bound : IsTrue v.bound) (clear : v.clear ≡ Some first) where
  hears : HearsFrom start judged.run judged.correct first
  hears = subst (λ c. IfSome c (HearsFrom start judged.run judged.correct)) clear
      (judged.hears lockstep bound)

  correct : (i : ℕ) → i < like.nodes → is_in judged.correct i ≡ true
  correct i known =
      let there = all i known in
      judged.listed.listed i (omega (arith, laws.few_nodes))
      ∙ list_any_at (nat_eq i) list there.0 i there.1 (eq-eqb i _ (sym there.2))

  -- a row is of a round that is closed for the judge too
  closed : (row : ClosedRound) → IsReported start told.run row
      → row.round < round_of judged.run row.node
  closed row reported =
      let node = reported.node in
      let nodes : told.run.setup.nodes ≡ like.nodes = ap (λ (z : Setup). z.nodes) told.setup in
      let also : judged.run.setup.nodes ≡ like.nodes = ap (λ (z : Setup). z.nodes) judged.setup in
      let last : told.run.setup.rounds ≡ like.rounds = ap (λ (z : Setup). z.rounds) told.setup in
      let same : judged.run.setup.rounds ≡ like.rounds = ap (λ (z : Setup). z.rounds) judged.setup
      in
      let due = told.agrees.closed row.node row.round reported.node reported.first reported.closed
      in
      let counted : count_of judged.run row.node ≡ count_of told.run row.node =
      ap (λ (t : List Event). steps row.node (reverse t)) (judged.trace ∙ sym told.trace) in
      (judged.closed row.node row.round (omega (arith, node, nodes, also)) reported.first
      (omega (arith, due.last, last, same))).1 (omega (arith, due.over, counted))

  unclear : (i r j : ℕ) → i < like.nodes → j < like.nodes → printed_omits report.rows i r j ≡ true
      → r < first
  unclear i r j known sender printed = by (cases_lt r first)
    where
      by : (r < first) ⊎ (first ≤ r) → r < first
      by (inl l) = l
      by (inr g) =
          let from : IsPrintedIn report.rows i r j = printed_from report.rows i r j printed in
          let row = from.row in
          let reported = All-contains (IsReported start told.run) report.rows row told.reported
          from.among in
          let node = from.node in
          let round = from.round in
          let none = hears row.round row.node j (omega (arith, g, round)) (closed row reported)
          (correct row.node (omega (arith, known, node))) (correct j sender) in
          let same = omitted_by_events start p like events told.run row.round row.node told.program
          told.setup told.trace
          ∙ sym (omitted_by_events start p like events judged.run row.round row.node judged.program
          judged.setup judged.trace) in
          absurd (both_ways _
          (ap (λ set. is_in set j) (reported.printed.omitted ∙ same) ∙ none) from.omits)

pub clear_runs_are_asked : ClearRunsAreAsked
clear_runs_are_asked start receives p s like question asked events report list delta gst first clear
    v laws is told judged all well later at quiet =
    let lockstep : v.lockstep ≡ true = ap (λ (z : Verdict). z.lockstep) well in
    let bound : v.bound ≡ true = ap (λ (z : Verdict). z.bound) well in
    let from : v.clear ≡ Some first = ap (λ (z : Verdict). z.clear) well in
    never_asked question s start p like asked events report is told quiet
    (λ i r j known sender begun printed. subst (λ c. IsUnclear c r) (sym at)
    (let l = unclear start receives p like events report list delta gst first v laws told judged all
    lockstep bound from i r j (omega (arith, known, is.nodes)) (omega (arith, sender, is.nodes))
    printed in
    omega (arith, l, later)))
