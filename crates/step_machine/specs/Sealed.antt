-- Messages on their way, and what a node has ready for a send slot.
use Rattle.std.specs.Prelude.{◌≡◌, ℕ, List, Option, Some, None, option_map, slice_index_or}
use Rattle.round_lang.specs.declared.value.Value.{Value}
use Rattle.round_lang.specs.Syntax.{ProgramTree}
use Rattle.round_meaning.specs.declared.setup.Setup.{Setup}
use Rattle.frame_format.specs.Formats.{Format}
use Rattle.round_meaning.specs.Rounds.{Algorithm, algorithm_of}
use Rattle.round_meaning.specs.Typed.{EndsAreStates, IsStateOf, SendsAreMessages, StartsAreStates}
use Rattle.run_events.specs.declared.name.Name.{Name}

-- a message under its name, with its sender's state, and the format of its bytes
pub record Frame : Type 0 where
  pub format : Format
  pub name : Name
  pub state : List Value
  pub message : List Value

-- the same message as copy k
abbrev pub copied_as : ℕ → Frame → Frame
copied_as k f = record f { name = record f.name { copy = k } }

-- a message or silence under its name, with its sender's state, and the format of its bytes
pub record Ready : Type 0 where
  pub format : Format
  pub name : Name
  pub state : List Value
  pub message : Option (List Value)

-- the frame of a message, none for silence
abbrev pub frame_of : Ready → Option Frame
frame_of p = option_map (λ m. record {
  format = p.format;
  name = p.name;
  state = p.state;
  message = m;
}) p.message

-- what a state sends under a name
abbrev pub sent_under : Algorithm → Name → List Value → Option (List Value)
sent_under a n s = a.send n.round s n.from n.to

-- what nodes begin with and end their rounds with are states of the program, and what they send are
-- its messages, each value of its type; every checked program does so
pub record KeepsTypes (p : ProgramTree) : Type 0 where
  pub starts : StartsAreStates p
  pub sends : SendsAreMessages p
  pub ends : EndsAreStates p

-- the values are a state of any such program whose algorithm this is
unfoldable pub HasStateTypes : Algorithm → List Value → Type 0
HasStateTypes a vs =
    (p : ProgramTree) (s : Setup) → KeepsTypes p → a ≡ algorithm_of p s → IsStateOf p vs

-- the frame says what the state that it names sends, which has the types of the algorithm's states
pub record IsHonest (a : Algorithm) (f : Frame) : Type 0 where
  pub says : sent_under a f.name f.state ≡ Some f.message
  pub types : HasStateTypes a f.state

-- the message or silence is what the state sends, which has the types of the algorithm's states
pub record IsPrepared (a : Algorithm) (p : Ready) : Type 0 where
  pub says : sent_under a p.name p.state ≡ p.message
  pub types : HasStateTypes a p.state

-- the frames held of one round, by sender
abbrev pub HeldRow : Type 0
HeldRow = List (Option Frame)

-- the frame of a sender, none if none is held
abbrev pub held_at : HeldRow → ℕ → Option Frame
held_at held j = slice_index_or held j None
