-- The report of the schedule of a failure breaks the property, in its last round and not before.
use Rattle.std.proofs.Common.{◌≡◌, ◌∙◌, ℕ, ◌-◌, ◌<◌, ◌≤◌, true, List, sym, subst}
use Rattle.std.proofs.Common.{ap}
use Rattle.std.proofs.Common.{arith, map, refl, suc}
use Rattle.std.specs.Prelude.{All, Contains, IsSome, nat_lt, slice_index_or}
use Rattle.std.specs.List.{range_with_len}
use Rattle.std.proofs.lemmas.Bool.{le-leb, leb-true, ltb-true}
use Rattle.std.proofs.lemmas.List.Elements.{All-contains, All-filter}
use Rattle.std.proofs.lemmas.List.Elements.{filter_passes}
use Rattle.answer_laws.specs.EveryReport.{HoldsOfRows}
use Rattle.command_runs.specs.Explained.{IsReportOf}
use Rattle.command_runs.specs.InRounds.{shown_by, shown_setup}
use Rattle.exploration_texts.specs.Stops.{steps_of}
use Rattle.omission_explainer.specs.Reported.{place}
use Rattle.omission_explainer.specs.Rows.{ClosedRound}
use Rattle.omission_explainer.specs.declared.report.Report.{Report}
use Rattle.omission_schedules.specs.Reports.{ShowsRounds}
use Rattle.omission_schedules.specs.Reports.{ended_below, ended_rounds, is_ended}
use Rattle.omission_schedules.specs.Schedules.{with_stops}
use Rattle.round_explorer.specs.Answers.{with_inputs}
use Rattle.round_explorer.specs.Properties.{HoldsUpTo, Terminates}
use Rattle.round_explorer.specs.Questions.{Messages, failure_of}
use Rattle.round_explorer.specs.declared.answer.Counterexample.{Counterexample}
use Rattle.round_explorer.specs.declared.property.Property.{Property}
use Rattle.round_explorer.specs.declared.property.Property.TheVariants.{Agreement, Always, Final}
use Rattle.round_explorer.specs.declared.property.Property.TheVariants.{Safety, Termination}
use Rattle.round_explorer.specs.declared.property.Property.TheVariants.{Validity}
use Rattle.round_explorer.specs.declared.question.AskedInputs.{AskedInputs}
use Rattle.round_explorer.specs.declared.question.Failure.{Failure}
use Rattle.round_explorer.specs.declared.question.Question.{Question}
use Rattle.round_lang.specs.Syntax.{ProgramTree}
use Rattle.round_meaning.proofs.RoundLaws.{rounds_same}
use Rattle.round_meaning.specs.Omissions.{is_omitted}
use Rattle.round_meaning.specs.Rounds.{algorithm, algorithm_of, rounds}
use Rattle.round_meaning.specs.Turn.{decision}
use Rattle.round_meaning.specs.declared.setup.Setup.{Setup}
use Rattle.run_samples.specs.Found.{IsFound, run_found}
use Rattle.slot_plans.specs.Plan.{PlanLaws}
use Rattle.answer_laws.specs.Shown.{AllHaveDecided, FailuresAreShown, HoldsAtEnd, rows_before}
use Rattle.answer_laws.proofs.Members.{all_flat, all_made, all_range, in_filter, in_flat, in_range}
use Rattle.answer_laws.proofs.Rows.{HasEach, IsOfRun, holds_of_rows, holds_of_run}
use Rattle.answer_laws.proofs.Rows.{other_rounds}
use Rattle.answer_laws.proofs.Schedules.{shows_rounds}
use Rattle.answer_laws.proofs.Stopping.{counts, ends, has_begun, same_omits}

algorithm_sized : (p : ProgramTree) (s : Setup) → (algorithm_of p s).nodes ≡ s.nodes
unfolding algorithm
algorithm_sized p s = refl

module _ (receives start : ℕ → ℕ) (p : ProgramTree) (s : Setup) (question : Question)
    (asked : AskedInputs) (property : Property) (c : Counterexample) (report : Report)
    (laws : PlanLaws s.nodes receives start) (found : IsFound p s question asked property c)
    (told : IsReportOf start p (shown_setup s c) (shown_by receives start s c) report) where
  abbrev setup : Setup
  setup = with_inputs s c.inputs

  abbrev pattern : List Failure
  pattern = c.failures.items

  abbrev omits : Messages
  omits = is_omitted c.omissions

  abbrev stops : ℕ → ℕ
  stops = steps_of s.nodes start c.round pattern

  -- the report shows the run in rounds
  shows : ShowsRounds start p (shown_setup s c) stops omits report
  shows =
      shows_rounds receives start stops p (shown_setup s c) omits report laws told

  -- ---- which rows there are

  abbrev IsPlace : ℕ × ℕ → Type 0
  IsPlace at = (1 ≤ at.0) × (at.0 ≤ c.round) × (at.1 < s.nodes)
      × (is_ended start stops at ≡ true)

  places : All IsPlace (ended_rounds start stops s.nodes c.round)
  places = all_flat IsPlace (ended_below start stops s.nodes) 1 c.round (λ r low high. λ k d l.
      let Here : ℕ × ℕ → Type 0 = λ at. (at.0 ≡ r) × (at.1 < s.nodes) in
      let pairs : List (ℕ × ℕ) = map (λ i. (r, i)) (range_with_len 0 s.nodes) in
      let here = All-filter (is_ended start stops) Here pairs
      (all_range Here (λ i. (r, i)) 0 s.nodes (λ i first past. (refl, omega arith))) k d l in
      let ended = filter_passes (is_ended start stops) pairs k d l in
      let same = here.0 in
      (omega arith, omega arith, here.1, ended))

  -- ---- what the run omits

  same_state : (r i : ℕ) → r ≤ c.round → i < s.nodes
      → rounds (algorithm_of p setup) (with_stops start stops omits) r i
      ≡ rounds (algorithm_of p setup) omits r i
  same_state r i past known =
      let sized = algorithm_sized p setup in
      rounds_same (algorithm_of p setup) (with_stops start stops omits) omits r i
      (λ q k j below receiver sender sends. same_omits s.nodes receives start laws c.round question
      s pattern omits refl found.past found.is_asked.is_table k (suc q) j (omega arith)
      (omega arith) (omega arith) (omega arith)) (omega arith)

  -- each row is of the run in rounds that the table is of
  all_of_run : All (IsOfRun p setup pattern omits c.round) report.rows
  all_of_run = λ k d l.
      let row = slice_index_or report.rows k d in
      let at : IsPlace (place row) = all_made IsPlace place report.rows
      (subst (All IsPlace) (sym shows.listed) places) k d l in
      let shown = shows.rowed k d l in
      let begun = has_begun question s pattern row.node found.is_asked.is_pattern at.2 in
      record {
        node = at.2;
        begun = at.0;
        past = at.1;
        counts = counts s.nodes receives start laws c.round (failure_of pattern row.node) row.round
            begun at.0 at.1 (leb-true _ _ at.3);
        decided = shown.decided;
        stated = shown.stated ∙ same_state row.round row.node at.1 at.2;
      }

  -- and each round that counts has a row
  each_has : HasEach p setup pattern omits c.round report.rows
  each_has i r known begun past counted =
      let test = le-leb _ _ (ends s.nodes receives start laws c.round (failure_of pattern i) r begun
      past counted) in
      let pairs : List (ℕ × ℕ) = map (λ k. (r, k)) (range_with_len 0 s.nodes) in
      let below = in_filter (is_ended start stops) pairs (r, i)
      (in_range (λ k. (r, k)) 0 s.nodes i (omega arith) (omega arith)) test in
      let all = in_flat (ended_below start stops s.nodes) 1 c.round r (r, i) (omega arith)
      (omega arith) below in
      subst (λ xs. Contains xs (r, i)) (sym shows.listed) all

  -- ---- the property

  terminates : AllHaveDecided (shown_setup s c) c report.rows
      → Terminates (run_found p s c) c.round
  terminates all = λ last i known never.
      let any = all i known never in
      let row = any.1 in
      let shown = All-contains (IsOfRun p setup pattern omits c.round) report.rows row all_of_run
      (any.0, any.2, any.3) in
      subst IsSome (shown.decided ∙ ap (decision p) shown.stated
      ∙ ap (λ q. decision p (rounds (algorithm_of p setup) omits q row.node)) any.4.1
      ∙ ap (λ j. decision p (rounds (algorithm_of p setup) omits c.round j)) any.4.0) any.4.2

  holds : (other : Property) → HoldsAtEnd other p (shown_setup s c) c report.rows
      → HoldsUpTo other (run_found p s c) c.round
  holds Agreement all = holds_of_run p setup pattern omits c.round report.rows all_of_run each_has
      Agreement (λ e. absurd cc) all
  holds Validity all = holds_of_run p setup pattern omits c.round report.rows all_of_run each_has
      Validity (λ e. absurd cc) all
  holds Final all = holds_of_run p setup pattern omits c.round report.rows all_of_run each_has
      Final (λ e. absurd cc) all
  holds Safety all = holds_of_run p setup pattern omits c.round report.rows all_of_run each_has
      Safety (λ e. absurd cc) all
  holds Termination all = terminates all
  holds (Always f) all = holds_of_run p setup pattern omits c.round report.rows all_of_run
      each_has (Always f) (λ e. absurd cc) all

  -- ---- the rounds before the last

  abbrev early : List ClosedRound
  early = rows_before c.round report.rows

  early_of_run : All (IsOfRun p setup pattern omits (c.round - 1)) early
  early_of_run = λ k d l.
      let test = λ (row : ClosedRound). nat_lt row.round c.round in
      let of = All-filter test (IsOfRun p setup pattern omits c.round) report.rows all_of_run k d l
      in
      let before = ltb-true _ _ (filter_passes test report.rows k d l) in
      record {
        node = of.node;
        begun = of.begun;
        past = omega arith;
        counts = of.counts;
        decided = of.decided;
        stated = of.stated;
      }

  shown_fails : (HoldsAtEnd property p (shown_setup s c) c report.rows → ⊥)
      × HoldsOfRows property p (shown_setup s c) early
  shown_fails = (
    λ all. found.fails (holds property all),
    other_rounds p setup c.round property early
        (holds_of_rows p setup pattern omits (c.round - 1) property early early_of_run
        (λ other. found.first (c.round - 1) (let begun = found.begun in omega arith))),
  )

pub failures_are_shown : FailuresAreShown
failures_are_shown receives start p s question asked property c report laws found told =
    shown_fails receives start p s question asked property c report laws found told
