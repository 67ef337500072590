-- A node, as contracts see it, and what it ends a round with.
use Rattle.std.specs.Prelude.{◌≡◌, ℕ, suc, ◌+◌, ◌-◌, ◌<◌, ◌≤◌, List, [], Option, Some, None, IsSome}
use Rattle.std.specs.Prelude.{length, option_map, slice_index_or, slice_set}
use Rattle.std.specs.Option.{ForSome}
use Rattle.std.specs.List.{filter_map}
use Rattle.round_lang.specs.declared.value.Value.{Value}
use Rattle.round_lang.specs.Syntax.{ProgramTree}
use Rattle.round_meaning.specs.declared.received.Received.{Received}
use Rattle.round_meaning.specs.declared.setup.Setup.{Setup}
use Rattle.round_meaning.specs.Rounds.{Algorithm, algorithm_of}
use Rattle.frame_format.specs.Formats.{Format, format_of}
use Rattle.step_machine.specs.Sealed.{Frame, HeldRow, IsHonest, held_at}

-- how many rounds ahead of its round a node keeps frames
abbrev pub ahead : ℕ
ahead = 3

-- a node: its program and setup, its number, its round, the state before it, the frames held of
-- its round and of each kept round after it, and the state that it ended the round with
pub record NodeView : Type 0 where
  pub program : ProgramTree
  pub setup : Setup
  pub me : ℕ
  pub round : ℕ
  pub state : List Value
  pub held : List HeldRow
  pub next : Option (List Value)

-- the algorithm of a node's program and setup
abbrev pub algorithm_in : NodeView → Algorithm
algorithm_in n = algorithm_of n.program n.setup

-- the frames of its messages
abbrev pub format_in : NodeView → Format
format_in n = format_of n.program n.setup.nodes

-- what the node sends to another in its round
abbrev pub sent_to : NodeView → ℕ → Option (List Value)
sent_to n dest = (algorithm_in n).send n.round n.state n.me dest

-- the frames held of the k-th round after the node's, which is its own where k is 0
abbrev pub held_of : NodeView → ℕ → HeldRow
held_of n k = slice_index_or n.held k []

-- the frames held of the node's round
abbrev pub held_now : NodeView → HeldRow
held_now n = held_of n 0

-- the frames as an inbox, in rising order of sender
abbrev pub inbox_of : HeldRow → List Received
inbox_of held = filter_map (λ (o : Option Frame).
    option_map (λ (f : Frame). record { from = f.name.from; message = f.message }) o) held

-- a frame of round r from j to i that says what its state sends
pub record IsFrom (a : Algorithm) (j i r : ℕ) (f : Frame) : Type 0 where
  pub from : f.name.from ≡ j
  pub to : f.name.to ≡ i
  pub round : f.name.round ≡ r
  pub honest : IsHonest a f

-- each frame held is of its sender and of the round, to the node, and says what its state sends
pub record IsHeld (a : Algorithm) (n i r : ℕ) (held : HeldRow) : Type 0 where
  pub each : (j : ℕ) → j < n → ForSome (held_at held j) (IsFrom a j i r)

-- there is a place for each of n senders, of the round and of each kept round after it
pub record HasPlaces (n : ℕ) (held : List HeldRow) : Type 0 where
  pub rows : length held ≡ suc ahead
  pub sized : (k : ℕ) → k ≤ ahead → length (slice_index_or held k []) ≡ n

-- the frames are held of round r and of each kept round after it
pub record AreHeld (a : Algorithm) (n i r : ℕ) (held : List HeldRow) : Type 0 where
  pub places : HasPlaces n held
  pub each : (k : ℕ) → k ≤ ahead → IsHeld a n i (r + k) (slice_index_or held k [])

-- the frame is of the node's round or of a kept round after it
pub record IsInReach (n : NodeView) (f : Frame) : Type 0 where
  pub begun : n.round ≤ f.name.round
  pub near : f.name.round ≤ n.round + ahead

-- how many rounds after the node's the frame's is
abbrev pub rounds_ahead : NodeView → Frame → ℕ
rounds_ahead n f = f.name.round - n.round

-- a frame of a kept round whose sender's frame of that round is held already
abbrev pub IsDoubled : NodeView → Frame → Type 0
IsDoubled n f = IsInReach n f × IsSome (held_at (held_of n (rounds_ahead n f)) f.name.from)

-- what the node holds with one frame more
abbrev pub held_with : NodeView → Frame → List HeldRow
held_with n f =
    let k = rounds_ahead n f in
    slice_set n.held k (slice_set (held_of n k) f.name.from (Some f))

-- the next state is the round's end of the state and the frames held of the round
abbrev pub IsEnd : NodeView → Type 0
IsEnd n = n.next ≡ Some ((algorithm_in n).end n.round n.me (inbox_of (held_now n)) n.state)

-- all but the next state is as it was
pub record IsSameTurn (old new : NodeView) : Type 0 where
  pub program : new.program ≡ old.program
  pub setup : new.setup ≡ old.setup
  pub me : new.me ≡ old.me
  pub round : new.round ≡ old.round
  pub state : new.state ≡ old.state
  pub held : new.held ≡ old.held

-- the node after its round: in the next, with the state that it ended the round with, and with
-- the frames of the rounds after it
pub record HasSettled (old new : NodeView) : Type 0 where
  pub program : new.program ≡ old.program
  pub setup : new.setup ≡ old.setup
  pub me : new.me ≡ old.me
  pub round : new.round ≡ old.round + 1
  pub state : Some new.state ≡ old.next
  pub kept : (k : ℕ) → k < ahead → held_of new k ≡ held_of old (k + 1)
  pub free : (j : ℕ) → held_at (held_of new ahead) j ≡ None
  pub places : (n : ℕ) → HasPlaces n old.held → HasPlaces n new.held
  pub next : new.next ≡ None
