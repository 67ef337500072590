-- The run that what stands under a lock has to be of.
use Rattle.std.specs.Prelude.{◌≡◌, ℕ, ◌++◌, List, drop, length, Option, None, Some}
use Rattle.round_lang.specs.Syntax.{ProgramTree}
use Rattle.round_meaning.specs.Rounds.{Algorithm, algorithm_of}
use Rattle.round_meaning.specs.Setups.{IsLawful}
use Rattle.round_meaning.specs.declared.setup.Setup.{Setup}
use Rattle.step_book.specs.Agreed.{JournalAgrees}
use Rattle.step_book.specs.Flight.{IsFlight}
use Rattle.step_book.specs.Log.{HasNoCopy, IsLeastCopy, Recorded, history, mark_in, waiting_in}
use Rattle.step_book.specs.Log.{world_of}
use Rattle.step_book.specs.Serials.{AreSent}
use Rattle.run_events.specs.declared.in_flight.InFlight.{InFlight}
use Rattle.run_events.specs.declared.name.Name.{Name}

-- a run by its plan, program and setup
pub record Run (P : Type 0) : Type 0 where
  pub plan : P
  pub program : ProgramTree
  pub setup : Setup

-- what the nodes of a run compute
abbrev pub algorithm_by : {P : Type 0} → Run P → Algorithm
algorithm_by r = algorithm_of r.program r.setup

-- the plan is for the setup's nodes, and the setup is lawful
pub record IsSound {P : Type 0} (nodes : P → ℕ) (r : Run P) : Type 0 where
  pub lawful : IsLawful r.program.values r.setup
  pub sized : nodes r.plan ≡ r.setup.nodes

-- the record is of the run
pub record IsBookOfRun {P : Type 0} (r : Run P) (b : Recorded P) : Type 0 where
  pub plan : b.plan ≡ r.plan
  pub program : b.log.program ≡ r.program
  pub setup : b.log.setup ≡ r.setup

-- the record is of the run, and what is recorded agrees with the run in rounds
pub record IsRecordOfRun {P : Type 0} (start : P → ℕ → ℕ) (r : Run P) (b : Recorded P)
    : Type 0 where
  pub of_run : IsBookOfRun r b
  pub agrees : JournalAgrees (start b.plan) b.log (mark_in (start b.plan) b.log)
      (waiting_in (start b.plan) b.log)

-- the copies that are in flight after the events of a record, and how many events it has
pub record IsFlightAfter {P : Type 0} (start : P → ℕ → ℕ) (b : Recorded P) (flight : List InFlight)
    (count : ℕ) : Type 0 where
  pub flies : IsFlight (start b.plan) b.log flight
  pub counted : count ≡ length b.log.trace

-- the copies that are in flight after the events of some record of the run, which agrees with the
-- run in rounds, and how many events it has
abbrev pub IsFlightInRun : {P : Type 0} → (P → ℕ → ℕ) → Run P → List InFlight → (count : ℕ)
    → Type 0
IsFlightInRun {P} start r flight count =
    (one : Recorded P) × IsRecordOfRun start r one × IsFlightAfter start one flight count

-- these are the messages that were sent by the events of a record, but for this many that were sent
-- first, after those that were there before; and how many events it has
pub record AddsSentAfter {P : Type 0} (start : P → ℕ → ℕ) (b : Recorded P) (known : ℕ)
    (old new : List Name) (count : ℕ) : Type 0 where
  pub messages : List Name
  pub are : AreSent (world_of (start b.plan) b.log) (history b.log) messages
  pub adds : new ≡ old ++ drop known messages
  pub counted : count ≡ length b.log.trace

-- these are the messages that were sent by the events of some record of the run, which agrees with
-- the run in rounds; but for so many that were sent first, after those that were there before; and
-- how many events it has
abbrev pub AddsSentInRun : {P : Type 0} → (P → ℕ → ℕ) → Run P → (known : ℕ) → (old new : List Name)
    → (count : ℕ) → Type 0
AddsSentInRun {P} start r known old new count =
    (one : Recorded P) × IsRecordOfRun start r one × AddsSentAfter start one known old new count

-- the copy is the least of the message that can be made after a record, or there is none
abbrev pub IsNextCopy : {P : Type 0} → (P → ℕ → ℕ) → Recorded P → Name → Option Name → Type 0
IsNextCopy start one n (Some m) =
    (m ≡ record n { copy = m.copy }) × IsLeastCopy (start one.plan) one.log n m.copy
IsNextCopy start one n None = HasNoCopy (start one.plan) one.log n

-- after the events of some record of the run, which agrees with the run in rounds, this is the
-- least copy of the message that can be made, or there is none
abbrev pub IsNextCopyInRun : {P : Type 0} → (P → ℕ → ℕ) → Run P → Name → Option Name → Type 0
IsNextCopyInRun {P} start r n o =
    (one : Recorded P) × IsRecordOfRun start r one × IsNextCopy start one n o
