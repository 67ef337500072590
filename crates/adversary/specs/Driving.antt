-- What holds while a schedule is run, and which events it may have.
use Rattle.std.specs.Prelude.{◌≡◌, ◌≢◌, ◌↔◌, ℕ, ◌+◌, ◌<◌, ◌≤◌, List, [], ◌∷◌, ◌++◌, length}
use Rattle.std.specs.Prelude.{slice_index_or, All}
use Rattle.step_book.specs.Agreement.{row}
use Rattle.step_book.specs.Log.{Log, IsDue, count_of, history, round_of, state_before, world_of}
use Rattle.step_book.specs.Names.{IsName}
use Rattle.step_book.specs.Work.{AreCarried}
use Rattle.round_meaning.specs.declared.setup.Setup.{Setup}
use Rattle.run_events.specs.Events.{of_event}
use Rattle.run_events.specs.declared.event.Event.{Event}
use Rattle.run_events.specs.declared.event.Event.TheVariants.{Step, Release, Drop, Copy}
use Rattle.step_machine.specs.Nodes.{HasPlaces, NodeView, ahead, held_of}
use Rattle.adversary.specs.declared.fault.RunFault.{RunFault}
use Rattle.adversary.specs.declared.fault.RunFault.TheVariants as fault

-- the node is node i of the run: in its round, with the state recorded before that, and holding
-- what was carried so far to the round and to each kept round after it, up to the last
pub record IsNodeOf (start : ℕ → ℕ) (v : Log) (i : ℕ) (n : NodeView) : Type 0 where
  pub program : n.program ≡ v.program
  pub setup : n.setup ≡ v.setup
  pub me : n.me ≡ i
  pub round : n.round ≡ round_of v i
  pub state : n.state ≡ state_before v i (round_of v i)
  pub places : HasPlaces v.setup.nodes n.held
  pub held : (k q : ℕ) → k ≤ ahead → q + 1 ≡ round_of v i + k → q < v.setup.rounds
      → AreCarried (world_of start v) (history v) i q (held_of n k)

-- the next step of node i is one of its round
pub record IsInRound (start : ℕ → ℕ) (v : Log) (i : ℕ) : Type 0 where
  pub first : 0 < round_of v i
  pub last : round_of v i ≤ v.setup.rounds
  pub begun : start (round_of v i) ≤ count_of v i
  pub within : count_of v i < start (round_of v i + 1)

-- the event names a node, or a copy of a message, of the run; copy 0 is made by no event of the
-- network
abbrev pub IsKnown : Setup → Event → Type 0
IsKnown s (Step i) = i < s.nodes
IsKnown s (Release n) = IsName s n
IsKnown s (Drop n) = IsName s n
IsKnown s (Copy n) = IsName s n × (0 < n.copy)

-- the run went on by these events, and no other node closed a round
pub record GoesOn (old new : Log) (i : ℕ) (events : List Event) : Type 0 where
  pub program : new.program ≡ old.program
  pub setup : new.setup ≡ old.setup
  pub trace : new.trace ≡ old.trace ++ events
  pub others : (j : ℕ) → j ≢ i → row new.rows j ≡ row old.rows j

-- the run went on by one event
pub record IsOneMore (old new : Log) (e : Event) : Type 0 where
  pub program : new.program ≡ old.program
  pub setup : new.setup ≡ old.setup
  pub trace : new.trace ≡ old.trace ++ e ∷ []

-- the run went on by these events
pub record AreMore (old new : Log) (events : List Event) : Type 0 where
  pub program : new.program ≡ old.program
  pub setup : new.setup ≡ old.setup
  pub trace : new.trace ≡ old.trace ++ events

-- no round of the node is due and open
abbrev pub IsSettled : (ℕ → ℕ) → Log → ℕ → Type 0
IsSettled start v i = ¬ (IsDue start v i)

-- so of each node
abbrev pub AreSettled : (ℕ → ℕ) → Log → Type 0
AreSettled start v = (i : ℕ) → i < v.setup.nodes → IsSettled start v i

-- a round of a node is closed exactly if the node has taken all its steps
abbrev pub ClosedAreDue : (ℕ → ℕ) → Log → Type 0
ClosedAreDue start v =
    (i r : ℕ) → i < v.setup.nodes → 0 < r → r ≤ v.setup.rounds
    → (r < round_of v i) ↔ (start (r + 1) ≤ count_of v i)

-- the nodes are those of the run
pub record AreNodesOf (start : ℕ → ℕ) (v : Log) (nodes : List NodeView) : Type 0 where
  pub sized : length nodes ≡ v.setup.nodes
  pub each : (i : ℕ) (d : NodeView) → i < v.setup.nodes
      → IsNodeOf start v i (slice_index_or nodes i d)

-- the nodes are those of the run, each where its log says, and no due round is open
pub record IsDriven (start : ℕ → ℕ) (v : Log) (nodes : List NodeView) : Type 0 where
  pub matching : AreNodesOf start v nodes
  pub settled : AreSettled start v

abbrev pub IsStep : Event → Type 0
IsStep e = of_event (λ i. Unit {0}) (λ n. ⊥) e

-- an event of the network
abbrev pub IsOfMessage : Event → Type 0
IsOfMessage e = of_event (λ i. ⊥) (λ n. Unit {0}) e

-- an event at this place names a node or a message that the run hasn't, and none before it does
abbrev pub IsFirstAt : Setup → List Event → ℕ → Type 0
IsFirstAt s events k =
    (k < length events) × ((d : Event) → ¬ IsKnown s (slice_index_or events k d))
    × ((j : ℕ) (d : Event) → j < k → IsKnown s (slice_index_or events j d))

-- the fault says of which kind the event at its place is
abbrev pub IsUnknownAt : Setup → List Event → RunFault → Type 0
IsUnknownAt s events (fault.UnknownNode k) =
    IsFirstAt s events k × ((d : Event) → IsStep (slice_index_or events k d))
IsUnknownAt s events (fault.UnknownMessage k) =
    IsFirstAt s events k × ((d : Event) → IsOfMessage (slice_index_or events k d))
IsUnknownAt s events f = ⊥

-- so it is of events behind so many others that are known
abbrev pub IsUnknownPast : Setup → ℕ → List Event → RunFault → Type 0
IsUnknownPast s n events f = (before : List Event) → length before ≡ n → All (IsKnown s) before
    → IsUnknownAt s (before ++ events) f

-- the fault of an event at this place
abbrev pub IsFaultOf : Event → ℕ → RunFault → Type 0
IsFaultOf e k f =
    of_event (λ i. f ≡ fault.UnknownNode k) (λ n. f ≡ fault.UnknownMessage k) e

-- why a lawful setup isn't run: the first event that names what the run hasn't;
-- `NoMemory` goes last
abbrev pub RunCause : Setup → List Event → RunFault → Type 0
RunCause s events fault.BadSetup = Unit {0}
RunCause s events fault.NoMemory = All (IsKnown s) events
RunCause s events f = IsUnknownAt s events f
