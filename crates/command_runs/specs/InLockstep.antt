-- What the schedule of a run in lockstep says.
use Rattle.std.specs.Prelude.{◌≡◌, ◌+◌, ◌<◌, ◌≤◌, ⊤, ℕ, All, List, Option, None, Some, length}
use Rattle.adversary.specs.Driving.{ClosedAreDue}
use Rattle.adversary.specs.declared.fault.RunFault.{RunFault}
use Rattle.adversary.specs.declared.fault.RunFault.TheVariants as run
use Rattle.command_runs.specs.Explained.{AreListed}
use Rattle.command_runs.specs.InChanges.{AreChanges, AreFitChanges, Terms}
use Rattle.lockstep_runs.specs.Changes.{SparesCorrect}
use Rattle.lockstep_runs.specs.Lockstep.{IsChangedRun, max_entries}
use Rattle.lockstep_runs.specs.declared.changes.Changes.{Changes}
use Rattle.omission_explainer.specs.Verdict.{IsDelayBound, IsLockstep}
use Rattle.omission_texts.specs.Meaning.{IsFirstUnknown}
use Rattle.omission_texts.specs.declared.line.OmissionLine.{OmissionLine}
use Rattle.round_lang.specs.Syntax.{ProgramTree}
use Rattle.round_meaning.specs.declared.setup.Setup.{Setup}
use Rattle.round_meaning.specs.Setups.{IsLawful}
use Rattle.schedule_text.specs.Texts.{Says, max_text}
use Rattle.schedule_text.specs.Writing.{text_of}
use Rattle.slot_plans.specs.Plan.{IsDelta}
use Rattle.run_events.specs.declared.plan_kind.PlanKind.{PlanKind}
use Rattle.step_book.specs.Agreed.{JournalAgrees}
use Rattle.step_book.specs.Log.{Log, history, mark_in, waiting_in, world_of}
use Rattle.run_events.specs.declared.event.Event.{Event}

-- how many ticks there are: as many as were asked for, or else as many steps as all rounds have
abbrev pub ticks_of : (ℕ → ℕ) → Setup → Option ℕ → ℕ
ticks_of start s None = start (s.rounds + 1)
ticks_of start s (Some ticks) = ticks

-- The events are those of a run in lockstep, whose nodes in the list are correct, with the changes
-- of the lines and the words: what it recorded agrees with the run in rounds, a round is closed in
-- it
-- exactly where its node took all its steps, and the correct nodes step in lockstep. If no message
-- between these is omitted or has a delay of its own above the bound, they keep the bound.
pub record IsLockstepTrace (start : ℕ → ℕ) (p : ProgramTree) (s : Setup) (ls : List OmissionLine)
    (t : Terms) (events : List Event) : Type 0 where
  pub run : Log
  pub program : run.program ≡ p
  pub setup : run.setup ≡ s
  pub trace : run.trace ≡ events
  pub agrees : JournalAgrees start run (mark_in start run) (waiting_in start run)
  pub closed : ClosedAreDue start run
  pub correct : ℕ
  pub listed : AreListed s.nodes t.correct correct
  pub changes : Changes
  pub changed : AreChanges start s ls t changes
  pub keys : IsChangedRun (world_of start run) t.bounded changes correct (ticks_of start s t.ticks)
      (history run)
  pub lockstep : IsLockstep run.trace correct
  pub bound : SparesCorrect correct t.bounded.delta changes
      → IsDelayBound start run correct t.bounded.delta t.bounded.gst

-- the text is that of these events under this setup and plan, and is read as that where it isn't
-- too long
pub record IsWritten (s : Setup) (k : PlanKind) (events : List Event) (text : List ℕ)
    : Type 0 where
  pub spelled : text ≡ text_of s k events
  pub read_back : length text ≤ max_text → Says text s k events

-- the text is the schedule of a run in lockstep
pub record IsLockstepText (start : ℕ → ℕ) (p : ProgramTree) (s : Setup) (k : PlanKind)
    (ls : List OmissionLine) (t : Terms) (text : List ℕ) : Type 0 where
  pub events : List Event
  pub trace : IsLockstepTrace start p s ls t events
  pub written : IsWritten s k events text

-- the numbers of such a run are within their limits, and so are the nodes of the list and the
-- tables
pub record AreTerms (p : ProgramTree) (s : Setup) (t : Terms) : Type 0 where
  pub setup : IsLawful p.values s
  pub listed : All (λ n. n < s.nodes) t.correct
  pub delta : IsDelta t.bounded.delta
  pub delays : length t.bounded.delays ≤ max_entries
  pub orders : length t.bounded.orders ≤ max_entries

-- why there is no such run: a number or a table is past its limits, or a stop or a delay isn't one
-- that the run may have; or, for a lawful setup, this is the first line that names no message of it
abbrev pub LockstepCause : (start : ℕ → ℕ) → ProgramTree → Setup → List OmissionLine → Terms
    → RunFault → Type 0
LockstepCause start p s ls t run.BadSetup = ¬ (AreTerms p s t × AreFitChanges start s ls t)
LockstepCause start p s ls t (run.UnknownMessage n) =
    IsLawful p.values s × All (λ i. i < s.nodes) t.correct × IsFirstUnknown s ls (Some n)
LockstepCause start p s ls t run.NoMemory = ⊤
LockstepCause start p s ls t _ = ⊥
