-- Which reports are of a run in rounds that the question covers, and what a yes says of them.
use Rattle.std.specs.Prelude.{◌≡◌, ◌⊎◌, ◌+◌, ◌<◌, ◌≤◌, ℕ, All, Contains, IsSome, List, Some, map}
use Rattle.std.specs.Prelude.{if◌then◌else◌, nat_lt, replicate, true}
use Rattle.std.specs.List.{count_by}
use Rattle.answer_laws.specs.EveryReport.{HoldsOfRows}
use Rattle.command_runs.specs.Explained.{IsReportSoFar, IsVerdictOf}
use Rattle.omission_explainer.specs.InRounds.{IsOfRounds}
use Rattle.omission_explainer.specs.Rows.{ClosedRound}
use Rattle.omission_explainer.specs.declared.judging.Verdict.{Verdict}
use Rattle.omission_explainer.specs.declared.report.Report.{Report}
use Rattle.round_explorer.specs.Answers.{AllHoldInAllRounds, AllHoldUpTo, IsAsked, in_rounds}
use Rattle.round_explorer.specs.OpenQuestions.{IsOpen, IsSetupOf}
use Rattle.round_explorer.specs.Properties.{Counts}
use Rattle.round_explorer.specs.Questions.{IsUnclear, MayBeMissed, Messages, failure_of}
use Rattle.round_explorer.specs.Questions.{is_faulty}
use Rattle.round_explorer.specs.declared.property.Property.{Property}
use Rattle.round_explorer.specs.declared.property.Property.TheVariants.{Termination}
use Rattle.round_explorer.specs.declared.question.AskedInputs.{AskedInputs}
use Rattle.round_explorer.specs.declared.question.Failure.{Failure}
use Rattle.round_explorer.specs.declared.question.Failure.TheVariants.{Crashes, Never}
use Rattle.round_explorer.specs.declared.question.FaultKind.TheVariants.{Crash}
use Rattle.round_explorer.specs.declared.question.Question.{Question}
use Rattle.round_lang.specs.Sets.{is_in}
use Rattle.round_lang.specs.Syntax.{ProgramTree}
use Rattle.round_meaning.specs.Rounds.{algorithm_of}
use Rattle.round_meaning.specs.declared.setup.Setup.{Setup}
use Rattle.run_events.specs.declared.event.Event.{Event}
use Rattle.slot_plans.specs.Plan.{PlanLaws}

-- The rows are of a run in rounds that the question covers, in a setup like the question's. Its
-- nodes fail by this pattern, and it omits these messages. Each row is of that run, and counts for
-- its node.
pub record IsAskedAbout (p : ProgramTree) (s : Setup) (question : Question) (asked : AskedInputs)
    (like : Setup) (pattern : List Failure) (rows : List ClosedRound) : Type 0 where
  pub omits : Messages
  pub setup : IsSetupOf p.values s asked like
  pub run : IsAsked p s question asked like.inputs pattern omits
  pub in_rounds : All (IsOfRounds (algorithm_of p like) omits) rows
  pub counts : All (λ (row : ClosedRound). Counts (failure_of pattern row.node) row.round) rows

-- a yes holds of the report of each run that the question covers
abbrev pub YesIsOfAskedReports : Type 0
YesIsOfAskedReports =
    (start : ℕ → ℕ) (p : ProgramTree) (s like : Setup) (question : Question) (asked : AskedInputs)
    (property : Property) (pattern : List Failure) (events : List Event) (report : Report)
    → IsAskedAbout p s question asked like pattern report.rows
    → AllHoldUpTo p s question asked property s.rounds → IsReportSoFar start p like events report
    → HoldsOfRows property p like report.rows

-- so does a yes in all rounds, whatever the number of its rounds is
abbrev pub YesInAllRoundsIsOfAskedReports : Type 0
YesInAllRoundsIsOfAskedReports =
    (start : ℕ → ℕ) (p : ProgramTree) (s like : Setup) (question : Question) (asked : AskedInputs)
    (property : Property) (pattern : List Failure) (events : List Event) (report : Report)
    → IsAskedAbout p (in_rounds s like.rounds) question asked like pattern report.rows
    → AllHoldInAllRounds p s question asked property → IsReportSoFar start p like events report
    → HoldsOfRows property p like report.rows

-- if nodes are sure to decide, each row of the question's last round has a decision, if its node
-- doesn't fail
abbrev pub TerminationIsOfAskedReports : Type 0
TerminationIsOfAskedReports =
    (start : ℕ → ℕ) (p : ProgramTree) (s like : Setup) (question : Question) (asked : AskedInputs)
    (pattern : List Failure) (events : List Event) (report : Report)
    → IsAskedAbout p s question asked like pattern report.rows
    → AllHoldUpTo p s question asked Termination s.rounds
    → IsReportSoFar start p like events report
    → All (λ (row : ClosedRound). row.round ≡ s.rounds → failure_of pattern row.node ≡ Never
    → IsSome row.decision) report.rows

-- if any message may be missed, each report is of a run that the question covers
abbrev pub OpenRunsAreAsked : Type 0
OpenRunsAreAsked =
    (start : ℕ → ℕ) (p : ProgramTree) (s like : Setup) (question : Question) (asked : AskedInputs)
    (events : List Event) (report : Report) → IsOpen question → IsSetupOf p.values s asked like
    → IsReportSoFar start p like events report
    → IsAskedAbout p s question asked like (replicate s.nodes Never) report.rows

-- the verdict says that all was well, and that the network was reliable from this round on
abbrev pub IsClearFrom : ℕ → Verdict → Type 0
IsClearFrom first v = v ≡ record { lockstep = true; bound = true; clear = Some first }

-- the question covers a run with all nodes correct that is judged clear from a round on, if it's
-- about runs that are clear from that round on or from a later one
abbrev pub ClearRunsAreAsked : Type 0
ClearRunsAreAsked =
    (start receives : ℕ → ℕ) (p : ProgramTree) (s like : Setup) (question : Question)
    (asked : AskedInputs) (events : List Event) (report : Report) (list : List ℕ)
    (delta gst first clear : ℕ) (v : Verdict)
    → PlanLaws like.nodes receives start → IsSetupOf p.values s asked like
    → IsReportSoFar start p like events report
    → IsVerdictOf start receives p like events list delta gst v
    → ((i : ℕ) → i < like.nodes → Contains list i) → IsClearFrom first v → first ≤ clear
    → question.clear ≡ Some clear → question.hears ≡ 0
    → IsAskedAbout p s question asked like (replicate s.nodes Never) report.rows

-- how a node fails that ends so many of the rounds: not, if it ends all of them, or else by a crash
-- in the next one
abbrev pub failure_after : (rounds ended : ℕ) → Failure
failure_after rounds ended = if nat_lt ended rounds then Crashes (ended + 1) else Never

-- the pattern of a report in which nodes that stopped have crashed, by how many rounds each ended
abbrev pub crashes_in : (rounds : ℕ) → Report → List Failure
crashes_in rounds report = map (λ (count : ℕ × ℕ). failure_after rounds count.1) report.counts

-- each message that the row omits may be missed
abbrev pub OmitsOnly : Question → List Failure → ClosedRound → Type 0
OmitsOnly question pattern row =
    (j : ℕ) → is_in row.omitted j ≡ true
    → IsUnclear question.clear row.round ⊎ MayBeMissed (failure_of pattern j) row.round

-- a question about crashes covers a run in which nodes stop, no more than may fail, and whose rows
-- omit from the clear round on only messages of nodes that don't end that round; these nodes crash
-- in it
abbrev pub StoppedRunsAreAsked : Type 0
StoppedRunsAreAsked =
    (start receives : ℕ → ℕ) (p : ProgramTree) (s like : Setup) (question : Question)
    (asked : AskedInputs) (events : List Event) (report : Report)
    → PlanLaws like.nodes receives start → IsSetupOf p.values s asked like
    → IsReportSoFar start p like events report → question.faults ≡ Crash → question.hears ≡ 0
    → count_by is_faulty (crashes_in like.rounds report) ≤ s.faults
    → All (OmitsOnly question (crashes_in like.rounds report)) report.rows
    → IsAskedAbout p s question asked like (crashes_in like.rounds report) report.rows

-- if any message may be missed, a yes in all rounds holds of every report, whatever the number of
-- its rounds is
abbrev pub YesInAllRoundsIsOfEveryReport : Type 0
YesInAllRoundsIsOfEveryReport =
    (start : ℕ → ℕ) (p : ProgramTree) (s like : Setup) (question : Question) (asked : AskedInputs)
    (property : Property) (events : List Event) (report : Report)
    → IsOpen question → IsSetupOf p.values (in_rounds s like.rounds) asked like
    → AllHoldInAllRounds p s question asked property → IsReportSoFar start p like events report
    → HoldsOfRows property p like report.rows
