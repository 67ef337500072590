-- What the report of a schedule's run says.
use Rattle.std.specs.Prelude.{◌≡◌, ◌<◌, ◌↔◌, ℕ, List, All, IfSome, IsTrue, map, nat_eq}
use Rattle.std.specs.List.{list_any}
use Rattle.adversary.specs.Driving.{ClosedAreDue}
use Rattle.omission_explainer.specs.InRounds.{IsOfRounds, printed_omits}
use Rattle.omission_explainer.specs.Reported.{IsReported, closed_rounds, counts_in, declared_names}
use Rattle.omission_explainer.specs.Reported.{place, declared_types}
use Rattle.omission_explainer.specs.declared.report.Report.{Report}
use Rattle.round_lang.specs.Syntax.{ProgramTree}
use Rattle.round_meaning.specs.Rounds.{algorithm_of}
use Rattle.round_meaning.specs.declared.setup.Setup.{Setup}
use Rattle.step_book.specs.Agreed.{JournalAgrees}
use Rattle.step_book.specs.Log.{Log, mark_in, waiting_in}
use Rattle.run_events.specs.declared.event.Event.{Event}
use Rattle.slot_plans.specs.Plan.{IsClearRound}
use Rattle.omission_explainer.specs.Verdict.{AreNodes, HearsFrom, IsDelayBound, IsLockstep}
use Rattle.omission_explainer.specs.declared.judging.Verdict.{Verdict}
use Rattle.round_lang.specs.Sets.{is_in}

-- The report is of a run whose events are these, and in which a round whose node took all its steps
-- may still be open. What that run recorded agrees with the run in rounds by the places of these
-- events, and the report has a row for each closed round. A row's sets are those of the events, and
-- its state is that of the node after that round in the run in rounds under the omissions that the
-- rows print.
pub record IsReportSoFar (start : ℕ → ℕ) (p : ProgramTree) (s : Setup) (events : List Event)
    (report : Report) : Type 0 where
  pub run : Log
  pub program : run.program ≡ p
  pub setup : run.setup ≡ s
  pub trace : run.trace ≡ events
  pub agrees : JournalAgrees start run (mark_in start run) (waiting_in start run)
  pub values : report.values ≡ p.values
  pub names : report.names ≡ declared_names p
  pub types : report.types ≡ declared_types p
  pub listed : map place report.rows ≡ closed_rounds run
  pub reported : All (IsReported start run) report.rows
  pub in_rounds : All (IsOfRounds (algorithm_of p s) (printed_omits report.rows)) report.rows
  pub counted : report.counts ≡ counts_in run

-- The report is of such a run, in which a round is closed exactly if its node took all its steps:
-- all that `IsReportSoFar` says, and that none is still open.
pub record IsReportOf (start : ℕ → ℕ) (p : ProgramTree) (s : Setup) (events : List Event)
    (report : Report) : Type 0 where
  pub so_far : IsReportSoFar start p s events report
  pub closed : ClosedAreDue start so_far.run

-- the set has just the listed numbers, which are nodes of the run
pub record AreListed (nodes : ℕ) (list : List ℕ) (members : ℕ) : Type 0 where
  pub nodes_alone : AreNodes nodes members
  pub listed : (i : ℕ) → i < 64 → is_in members i ≡ list_any (nat_eq i) list

-- The verdict is of a run whose events are these, in which a round is closed exactly where its node
-- took all its steps: whether the listed nodes step in lockstep, whether messages between them keep
-- the bound, and the first round of the plan from which, if both is so, none of their messages
-- is omitted.
pub record IsVerdictOf (start receives : ℕ → ℕ) (p : ProgramTree) (s : Setup) (events : List Event)
    (list : List ℕ) (delta gst : ℕ) (verdict : Verdict) : Type 0 where
  pub run : Log
  pub program : run.program ≡ p
  pub setup : run.setup ≡ s
  pub trace : run.trace ≡ events
  pub agrees : JournalAgrees start run (mark_in start run) (waiting_in start run)
  pub closed : ClosedAreDue start run
  pub correct : ℕ
  pub listed : AreListed s.nodes list correct
  pub lockstep : IsTrue verdict.lockstep ↔ IsLockstep run.trace correct
  pub bound : IsTrue verdict.bound ↔ IsDelayBound start run correct delta gst
  pub clear : IsClearRound receives start delta gst verdict.clear
  pub hears : IsTrue verdict.lockstep → IsTrue verdict.bound
      → IfSome verdict.clear (HearsFrom start run correct)
