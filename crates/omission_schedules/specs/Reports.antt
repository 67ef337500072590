-- What the report of a run in rounds shows, if its nodes stop after so many steps.
use Rattle.std.specs.Prelude.{◌≡◌, ℕ, ◌+◌, ◌-◌, Bool, List, All, filter, is_some, length, map, min}
use Rattle.std.specs.Prelude.{nat_le, not}
use Rattle.std.specs.List.{flat_map, range_with_len}
use Rattle.adversary.specs.Driving.{ClosedAreDue}
use Rattle.omission_explainer.specs.Printed.{IsPrinted}
use Rattle.omission_explainer.specs.Reported.{IsReported, closed_rounds, counts_in, declared_names}
use Rattle.omission_explainer.specs.Reported.{declared_types, place}
use Rattle.omission_explainer.specs.Rows.{ClosedRound}
use Rattle.omission_explainer.specs.declared.report.Report.{Report}
use Rattle.round_lang.specs.Syntax.{ProgramTree}
use Rattle.round_meaning.specs.Rounds.{Algorithm, algorithm_of, rounds}
use Rattle.round_meaning.specs.Turn.{decision}
use Rattle.round_meaning.specs.declared.setup.Setup.{Setup}
use Rattle.slot_plans.specs.Plan.{PlanLaws}
use Rattle.step_book.specs.Agreed.{JournalAgrees}
use Rattle.step_book.specs.Log.{Log, mark_in, waiting_in}
use Rattle.omission_schedules.specs.Schedules.{has_slot, schedule_with_stops, with_stops}

-- node j has a message for node i in round r of the run in rounds under an omission test
abbrev pub has_message : Algorithm → (ℕ → ℕ → ℕ → Bool) → ℕ → ℕ → ℕ → Bool
has_message a omits r i j = is_some (a.send r (rounds a omits (r - 1) j) j i)

-- The row is of the run in rounds under an omission test. It heard the senders that aren't omitted
-- and have a message for its node, those are silent that took their slot and have none, and all
-- others are omitted; the state and the decision are the node's after that round.
pub record IsRowUnder (p : ProgramTree) (a : Algorithm) (start stops : ℕ → ℕ)
    (omits : ℕ → ℕ → ℕ → Bool) (row : ClosedRound) : Type 0 where
  pub printed : IsPrinted a.nodes (λ j. not (omits row.node row.round j))
      (has_message a omits row.round row.node) (has_slot start stops row.round row.node) row
  pub stated : row.state ≡ rounds a omits row.round row.node
  pub decided : row.decision ≡ decision p row.state

-- a node that stops after so many steps ends this round
abbrev pub is_ended : (start stops : ℕ → ℕ) → ℕ × ℕ → Bool
is_ended start stops place = nat_le (start (place.0 + 1)) (stops place.1)

-- the nodes below n that end round r, each with that round
abbrev pub ended_below : (start stops : ℕ → ℕ) → ℕ → ℕ → List (ℕ × ℕ)
ended_below start stops n r = filter (is_ended start stops) (map (λ i. (r, i)) (range_with_len 0 n))

-- the rounds that n nodes end, by round and then by node
abbrev pub ended_rounds : (start stops : ℕ → ℕ) → (nodes rounds : ℕ) → List (ℕ × ℕ)
ended_rounds start stops n rounds = flat_map (ended_below start stops n) (range_with_len 1 rounds)

-- how many steps node i takes in so many rounds, and how many of them it ends
abbrev pub count_until : (start stops : ℕ → ℕ) → ℕ → ℕ → ℕ × ℕ
count_until start stops rounds i = (
  min (start (rounds + 1)) (stops i),
  length (filter (λ r. is_ended start stops (r, i)) (range_with_len 1 rounds)),
)

-- The report shows the run in rounds under an omission test that also omits what isn't sent, since
-- node i stops after `stops i` steps: a row for each round that a node ends, and the counts of each
-- node.
pub record ShowsRounds (start : ℕ → ℕ) (p : ProgramTree) (s : Setup) (stops : ℕ → ℕ)
    (omits : ℕ → ℕ → ℕ → Bool) (report : Report) : Type 0 where
  pub values : report.values ≡ p.values
  pub names : report.names ≡ declared_names p
  pub types : report.types ≡ declared_types p
  pub listed : map place report.rows ≡ ended_rounds start stops s.nodes s.rounds
  pub rowed : All (IsRowUnder p (algorithm_of p s) start stops (with_stops start stops omits))
      report.rows
  pub counted : report.counts ≡ map (count_until start stops s.rounds) (range_with_len 0 s.nodes)

-- a run in single steps whose events are the schedule of an omission test
pub record IsScheduleRun (receives start : ℕ → ℕ) (p : ProgramTree) (s : Setup) (stops : ℕ → ℕ)
    (omits : ℕ → ℕ → ℕ → Bool) (v : Log) : Type 0 where
  pub program : v.program ≡ p
  pub setup : v.setup ≡ s
  pub trace : v.trace ≡ schedule_with_stops s.nodes receives start stops omits s.rounds
  pub agrees : JournalAgrees start v (mark_in start v) (waiting_in start v)
  pub closed : ClosedAreDue start v

-- the report is what such a run is explained as
pub record IsExplained (start : ℕ → ℕ) (v : Log) (report : Report) : Type 0 where
  pub values : report.values ≡ v.program.values
  pub names : report.names ≡ declared_names v.program
  pub types : report.types ≡ declared_types v.program
  pub listed : map place report.rows ≡ closed_rounds v
  pub reported : All (IsReported start v) report.rows
  pub counted : report.counts ≡ counts_in v

-- the report of the run of a schedule shows the run in rounds under its omission test
abbrev pub SchedulesShowRounds : Type 0
SchedulesShowRounds =
    (receives start stops : ℕ → ℕ) (p : ProgramTree) (s : Setup) (omits : ℕ → ℕ → ℕ → Bool)
    → PlanLaws s.nodes receives start
    → (v : Log) (report : Report) → IsScheduleRun receives start p s stops omits v
    → IsExplained start v report → ShowsRounds start p s stops omits report

-- one report alone does so
abbrev pub OneReportShowsRounds : Type 0
OneReportShowsRounds =
    (start stops : ℕ → ℕ) (p : ProgramTree) (s : Setup) (omits : ℕ → ℕ → ℕ → Bool)
    → (report again : Report) → ShowsRounds start p s stops omits report
    → ShowsRounds start p s stops omits again → again ≡ report
