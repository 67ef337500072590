-- A node's thread: its seat and its node go together.
use Rattle.std.specs.Prelude.{◌≡◌, ℕ, ◌+◌, ◌<◌, ◌≤◌, ◌⊎◌, List, [], ◌∷◌, ◌++◌, Option, None}
use Rattle.std.specs.Prelude.{Some, length, slice_index_or}
use Rattle.locked_buffers.specs.Runs.{Run}
use Rattle.locked_buffers.specs.Seats.{Account, IsDueBy, round_by}
use Rattle.run_events.specs.Limits.{max_rounds}
use Rattle.schedule_text.specs.declared.pace.Stop.{Stop}
use Rattle.step_book.specs.Buffers.{names_in}
use Rattle.step_book.specs.Taking.{HasTaken}
use Rattle.step_machine.specs.Nodes.{HasPlaces, NodeView}
use Rattle.step_machine.specs.Sealed.{Frame}
use Rattle.node_threads.specs.declared.body.Halt.{Halt}
use Rattle.node_threads.specs.declared.body.Halt.TheVariants as halt
use Rattle.node_threads.specs.declared.ended.Ended.{Ended}
use Rattle.node_threads.specs.declared.ended.Ended.TheVariants.{Done, NoMemory, Stopped}
use Rattle.node_threads.specs.Stops.{stop_of}

-- this plan and this last round are the run's, and within their limits
pub record IsPlanned {P : Type 0} (nodes : P → ℕ) (r : Run P) (p : P) (last : ℕ) : Type 0 where
  pub plan : r.plan ≡ p
  pub rounds : r.setup.rounds ≡ last
  pub sized : nodes p ≡ r.setup.nodes
  pub few : last ≤ max_rounds

-- the node is the seat's node of the run, in the seat's round
pub record IsTogether {P : Type 0} (r : Run P) (a : Account) (n : NodeView) : Type 0 where
  pub program : n.program ≡ r.program
  pub setup : n.setup ≡ r.setup
  pub me : n.me ≡ a.node
  pub within : a.node < r.setup.nodes
  pub round : n.round ≡ round_by a
  pub places : HasPlaces r.setup.nodes n.held

-- the seat's steps lie in its round, so that no round is due; past the last round they are all
pub record IsInPlace (start : ℕ → ℕ) (rounds : ℕ) (a : Account) : Type 0 where
  pub first : 0 < round_by a
  pub last : round_by a ≤ rounds + 1
  pub begun : start (round_by a) ≤ a.steps
  pub early : round_by a ≤ rounds → a.steps < start (round_by a + 1)
  pub whole : round_by a ≡ rounds + 1 → a.steps ≡ start (rounds + 1)

-- the node has taken the frames that a receive handed out, under whose names its seat notes it
pub record HasReceived (a b : Account) (n m : NodeView) : Type 0 where
  pub frames : List Frame
  pub taken : HasTaken n m frames
  pub handed : b.handed ≡ a.handed ++ names_in frames ∷ []

-- if there is a stop from this number of steps on, it isn't before that one
abbrev pub IsNotPassed : (stop : Option ℕ) → (from to : ℕ) → Type 0
IsNotPassed stop from to = (n : ℕ) → stop ≡ Some n → from ≤ n → to ≤ n

-- how a thread ended that couldn't go on, if it's an end: a refused call is none
abbrev pub end_of : Halt → Option Ended
end_of halt.NoMemory = Some NoMemory
end_of halt.Refused = None

-- the step that came next wasn't taken, or it was, and the round that it made due is still open
abbrev pub IsHeldUp : (start : ℕ → ℕ) → (rounds : ℕ) → (old new : Account) → Type 0
IsHeldUp start rounds old new = (new ≡ old) ⊎ IsDueBy start rounds new

-- the seat isn't at its end: it has a round that isn't closed, and at its stop that round is due
pub record IsCutShort (start : ℕ → ℕ) (rounds : ℕ) (stop : Option ℕ) (a : Account) : Type 0 where
  pub open_round : round_by a ≤ rounds
  pub due : stop ≡ Some a.steps → IsDueBy start rounds a

-- what is said of a seat by how its thread ended, as in Ends
pub record IsEnded (start : ℕ → ℕ) (rounds : ℕ) (stop : Option ℕ) (a : Account) (e : Ended)
    : Type 0 where
  pub done : e ≡ Done → (round_by a ≡ rounds + 1) × (a.steps ≡ start (rounds + 1))
  pub stopped : e ≡ Stopped
      → (stop ≡ Some a.steps) × (a.steps < start (rounds + 1)) × (¬ IsDueBy start rounds a)
  pub cut : e ≡ NoMemory → IsCutShort start rounds stop a

-- each seat is as its thread ended
pub record SeatsEnded (start : ℕ → ℕ) (rounds : ℕ) (stops : List Stop) (seats : List Account)
    (ends : List Ended) : Type 0 where
  pub sized : length ends ≡ length seats
  pub each : (i : ℕ) (d : Account) (e : Ended) → i < length seats
      → IsEnded start rounds (stop_of stops i) (slice_index_or seats i d) (slice_index_or ends i e)
