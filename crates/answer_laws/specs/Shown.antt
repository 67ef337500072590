-- What the schedule of a failure shows: the property doesn't hold of its run's report, and holds of
-- the rounds before the last one.
use Rattle.std.specs.Prelude.{◌≡◌, ◌<◌, ℕ, Any, IsSome, List, filter, nat_lt}
use Rattle.answer_laws.specs.EveryReport.{HoldsOfRows}
use Rattle.command_runs.specs.Explained.{IsReportOf}
use Rattle.command_runs.specs.InRounds.{shown_by, shown_setup}
use Rattle.omission_explainer.specs.Rows.{ClosedRound}
use Rattle.omission_explainer.specs.declared.report.Report.{Report}
use Rattle.round_explorer.specs.Questions.{failure_of}
use Rattle.round_explorer.specs.declared.answer.Counterexample.{Counterexample}
use Rattle.round_explorer.specs.declared.property.Property.{Property}
use Rattle.round_explorer.specs.declared.property.Property.TheVariants.{Agreement, Always, Final}
use Rattle.round_explorer.specs.declared.property.Property.TheVariants.{Safety, Termination}
use Rattle.round_explorer.specs.declared.property.Property.TheVariants.{Validity}
use Rattle.round_explorer.specs.declared.question.AskedInputs.{AskedInputs}
use Rattle.round_explorer.specs.declared.question.Failure.TheVariants.{Never}
use Rattle.round_explorer.specs.declared.question.Question.{Question}
use Rattle.round_lang.specs.Syntax.{ProgramTree}
use Rattle.round_meaning.specs.declared.setup.Setup.{Setup}
use Rattle.run_samples.specs.Found.{IsFound}
use Rattle.slot_plans.specs.Plan.{PlanLaws}

-- node i has a decision in its row of round r
abbrev pub HasDecidedIn : List ClosedRound → (i r : ℕ) → Type 0
HasDecidedIn rows i r =
    Any (λ (row : ClosedRound). (row.node ≡ i) × (row.round ≡ r) × IsSome row.decision) rows

-- in the last round, each node that doesn't fail has a decision
abbrev pub AllHaveDecided : Setup → Counterexample → List ClosedRound → Type 0
AllHaveDecided s c rows =
    (i : ℕ) → i < s.nodes → failure_of c.failures.items i ≡ Never → HasDecidedIn rows i c.round

-- the property holds of the rows of a report that goes to the end of the run that is shown
abbrev pub HoldsAtEnd :
    Property → ProgramTree → Setup → Counterexample → List ClosedRound → Type 0
HoldsAtEnd Agreement p s c rows = HoldsOfRows Agreement p s rows
HoldsAtEnd Validity p s c rows = HoldsOfRows Validity p s rows
HoldsAtEnd Final p s c rows = HoldsOfRows Final p s rows
HoldsAtEnd Safety p s c rows = HoldsOfRows Safety p s rows
HoldsAtEnd Termination p s c rows = AllHaveDecided s c rows
HoldsAtEnd (Always f) p s c rows = HoldsOfRows (Always f) p s rows

-- the rows of the rounds before this one
abbrev pub rows_before : ℕ → List ClosedRound → List ClosedRound
rows_before round rows = filter (λ (row : ClosedRound). nat_lt row.round round) rows

-- the report of the schedule that shows a failure breaks the property, and not before its last
-- round
abbrev pub FailuresAreShown : Type 0
FailuresAreShown =
    (receives start : ℕ → ℕ) (p : ProgramTree) (s : Setup) (question : Question)
    (asked : AskedInputs) (property : Property) (c : Counterexample) (report : Report)
    → PlanLaws s.nodes receives start → IsFound p s question asked property c
    → IsReportOf start p (shown_setup s c) (shown_by receives start s c) report
    → (¬ HoldsAtEnd property p (shown_setup s c) c report.rows)
    × HoldsOfRows property p (shown_setup s c) (rows_before c.round report.rows)
