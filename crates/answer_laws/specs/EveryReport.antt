-- What a yes to a question about all runs says of reports.
use Rattle.std.specs.Prelude.{◌≡◌, ◌≤◌, ⊤, ℕ, All, Contains, List, Some, true}
use Rattle.omission_explainer.specs.Decided.{AreAgreed, AreInputs}
use Rattle.omission_explainer.specs.Rows.{ClosedRound}
use Rattle.omission_explainer.specs.declared.report.Report.{Report}
use Rattle.round_explorer.specs.Answers.{AllHoldUpTo}
use Rattle.round_explorer.specs.OpenQuestions.{IsOpen, IsSetupOf}
use Rattle.round_explorer.specs.Properties.{is_true}
use Rattle.round_explorer.specs.declared.property.Property.{Property}
use Rattle.round_explorer.specs.declared.property.Property.TheVariants.{Agreement, Always, Final}
use Rattle.round_explorer.specs.declared.property.Property.TheVariants.{Safety, Termination}
use Rattle.round_explorer.specs.declared.property.Property.TheVariants.{Validity}
use Rattle.round_explorer.specs.declared.question.AskedInputs.{AskedInputs}
use Rattle.round_explorer.specs.declared.question.Question.{Question}
use Rattle.round_lang.specs.Syntax.{ProgramTree}
use Rattle.round_meaning.specs.declared.setup.Setup.{Setup}
use Rattle.run_events.specs.declared.event.Event.{Event}
use Rattle.command_runs.specs.Explained.{IsReportSoFar}

-- a node that has decided v in one row decides v in each later row of its own
abbrev pub AreFinal : List ClosedRound → Type 0
AreFinal rows =
    (one other : ClosedRound) (v : ℕ) → Contains rows one → Contains rows other
    → one.node ≡ other.node → one.round ≤ other.round → one.decision ≡ Some v
    → other.decision ≡ Some v

-- the property holds of the rows of a report; of termination nothing is said, since a node may have
-- taken fewer steps than it needs for its last round
abbrev pub HoldsOfRows : Property → ProgramTree → Setup → List ClosedRound → Type 0
HoldsOfRows Agreement p s rows = AreAgreed rows
HoldsOfRows Validity p s rows = AreInputs s rows
HoldsOfRows Final p s rows = AreFinal rows
HoldsOfRows Safety p s rows = AreAgreed rows × AreInputs s rows × AreFinal rows
HoldsOfRows Termination p s rows = ⊤
HoldsOfRows (Always f) p s rows =
    All (λ (row : ClosedRound).
    is_true p s.nodes s.faults f.now row.round row.node row.state ≡ true) rows

-- If any message may be missed, a yes holds of every report: of every schedule under every plan,
-- and of every run by threads, even if one had no memory, of the program, of inputs that were asked
-- about and of no more rounds.
abbrev pub YesIsOfEveryReport : Type 0
YesIsOfEveryReport =
    (start : ℕ → ℕ) (p : ProgramTree) (s like : Setup) (question : Question) (asked : AskedInputs)
    (property : Property) (events : List Event) (report : Report)
    → IsOpen question → IsSetupOf p.values s asked like
    → AllHoldUpTo p s question asked property s.rounds → IsReportSoFar start p like events report
    → HoldsOfRows property p like report.rows
