-- What files of omissions say of runs: of the run whose report they were printed from, and of the
-- schedules that realise them.
use Rattle.std.specs.Prelude.{◌≡◌, ◌↔◌, ◌+◌, ◌<◌, ◌≤◌, ℕ, All, Any, List, false, length, map}
use Rattle.std.specs.List.{flat_map}
use Rattle.command_runs.specs.Explained.{IsReportOf, IsReportSoFar}
use Rattle.command_runs.specs.InOmissions.{ShowsOmitting, realised_by}
use Rattle.omission_explainer.specs.InRounds.{printed_omits}
use Rattle.omission_explainer.specs.Rows.{ClosedRound}
use Rattle.omission_explainer.specs.declared.report.Report.{Report}
use Rattle.omission_texts.specs.Meaning.{IsKnown, omits}
use Rattle.omission_texts.specs.Stops.{steps_of}
use Rattle.omission_texts.specs.Texts.{Says}
use Rattle.omission_texts.specs.declared.line.OmissionLine.{OmissionLine}
use Rattle.omission_texts.specs.declared.line.OmissionLine.TheVariants.{Omit}
use Rattle.round_lang.specs.Sets.{members}
use Rattle.round_lang.specs.Syntax.{ProgramTree}
use Rattle.round_meaning.specs.Setups.{IsLawful}
use Rattle.round_meaning.specs.declared.setup.Setup.{Setup}
use Rattle.run_data.specs.Omitted.{omissions_text}
use Rattle.run_events.specs.declared.event.Event.{Event}
use Rattle.schedule_text.specs.Texts.{max_text}
use Rattle.slot_plans.specs.Plan.{PlanLaws}
use Rattle.step_book.specs.Places.{IsCarried}
use Rattle.step_book.specs.World.{World, nodes_of}

-- a line `omit I R J` for each node J that a row of node I in round R has as omitted
abbrev pub row_lines : ClosedRound → List OmissionLine
row_lines row =
    map (λ j. Omit row.node (record { first = row.round; last = row.round }) j)
    (members row.omitted)

-- the lines of all rows
abbrev pub lines_of : List ClosedRound → List OmissionLine
lines_of rows = flat_map row_lines rows

-- the omissions that are printed of a report are read as its lines, if they aren't too long; these
-- name messages of the run alone, and omit what the rows have as omitted
abbrev pub OmissionsAreRead : Type 0
OmissionsAreRead =
    (start : ℕ → ℕ) (p : ProgramTree) (s : Setup) (events : List Event) (report : Report)
    → IsLawful p.values s → IsReportSoFar start p s events report
    → (length (omissions_text report) ≤ max_text
    → Says (omissions_text report) (lines_of report.rows))
    × All (IsKnown s) (lines_of report.rows)
    × ((i r j : ℕ) → omits (lines_of report.rows) i r j ≡ printed_omits report.rows i r j)

-- the rows have one with the round, the node, the state and the decision of this
abbrev pub HasSameEnd : List ClosedRound → ClosedRound → Type 0
HasSameEnd rows row =
    Any (λ (other : ClosedRound). (other.round ≡ row.round) × (other.node ≡ row.node)
    × (other.state ≡ row.state) × (other.decision ≡ row.decision)) rows

-- the run in rounds that omits what is printed of a report ends each of its rounds as it did
abbrev pub OmissionsAreRunAgain : Type 0
OmissionsAreRunAgain =
    (start receives : ℕ → ℕ) (p : ProgramTree) (s : Setup) (events : List Event)
    (report again : Report) → PlanLaws s.nodes receives start → IsLawful p.values s
    → IsReportSoFar start p s events report → ShowsOmitting start p s (lines_of report.rows) again
    → All (HasSameEnd again.rows) report.rows

-- the schedule that realises lines carries a message, in each round that its receiver ends, exactly
-- if no line omits it
abbrev pub RealisedOmitsJustThat : Type 0
RealisedOmitsJustThat =
    (w : World) (receives : ℕ → ℕ) (s : Setup) (ls : List OmissionLine)
    → nodes_of w ≡ s.nodes → w.rounds ≡ s.rounds → PlanLaws s.nodes receives w.start
    → All (IsKnown s) ls → (i r j copy : ℕ) → i < s.nodes → j < s.nodes → 1 ≤ r → r ≤ s.rounds
    → w.start (r + 1) ≤ steps_of s.nodes w.start s ls i
    → (omits ls i r j ≡ false)
    ↔ IsCarried w (realised_by receives w.start s ls)
    (record { from = j; to = i; round = r; copy = copy })

-- the run of the schedule that realises lines has the very report that is made in rounds, under
-- each plan
abbrev pub RunsReportRounds : Type 0
RunsReportRounds =
    (receives start : ℕ → ℕ) (p : ProgramTree) (s : Setup) (ls : List OmissionLine)
    (report again : Report) → PlanLaws s.nodes receives start → ShowsOmitting start p s ls report
    → IsReportOf start p s (realised_by receives start s ls) again → again ≡ report
