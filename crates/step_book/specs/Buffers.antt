-- The frames of one node that are in flight or wait.
use Rattle.std.specs.Prelude.{◌≡◌, ℕ, ◌-◌, ◌<◌, ◌≤◌, All, IfSome, List, [], Option, None, length}
use Rattle.std.specs.Prelude.{map, slice_index_or}
use Rattle.round_lang.specs.Syntax.{ProgramTree}
use Rattle.round_meaning.specs.Rounds.{Algorithm, algorithm_of}
use Rattle.round_meaning.specs.declared.setup.Setup.{Setup}
use Rattle.run_events.specs.declared.name.Name.{Name}
use Rattle.run_events.specs.Limits.{max_copy}
use Rattle.step_machine.specs.Sealed.{Frame, IsHonest}
use Rattle.step_book.specs.Agreement.{Row, row}
use Rattle.step_book.specs.Tables.{read_at}

-- the frames of one node of a run: in flight to it by round and place, those that wait for it, and
-- for how many more there is room
pub record BufferView : Type 0 where
  pub program : ProgramTree
  pub setup : Setup
  pub flying : List (List (Option Frame))
  pub waiting : List Frame
  pub spare : ℕ

-- each frame says what the state that it names sends
pub record AreHonest (a : Algorithm) (flying : List (List (Option Frame)))
    (waiting : List Frame) : Type 0 where
  pub flies : (round place : ℕ) → IfSome (read_at None flying round place) (IsHonest a)
  pub waits : All (IsHonest a) waiting

-- the algorithm of a buffer's run
abbrev pub run_of : BufferView → Algorithm
run_of b = algorithm_of b.program b.setup

-- both are of one run
pub record IsSameRun (old new : BufferView) : Type 0 where
  pub program : new.program ≡ old.program
  pub setup : new.setup ≡ old.setup

-- the frame in flight at a place of a round's table
abbrev pub flying_at : BufferView → ℕ → ℕ → Option Frame
flying_at b round place = read_at None b.flying round place

-- the names of frames
abbrev pub names_in : List Frame → List Name
names_in fs = map (λ f. f.name) fs

-- the frame is of the recorded state of its sender, and says what that state sends
pub record IsGenuine (a : Algorithm) (rows : List Row) (f : Frame) : Type 0 where
  pub honest : IsHonest a f
  pub copy : f.name.copy ≤ max_copy
  pub first : 0 < f.name.round
  pub past : f.name.round ≤ length (row rows f.name.from)
  pub own : slice_index_or (row rows f.name.from) (f.name.round - 1) [] ≡ f.state

-- a frame of one of n nodes to node i, which says what its state sends
pub record IsMail (a : Algorithm) (n i : ℕ) (f : Frame) : Type 0 where
  pub from : f.name.from < n
  pub copy : f.name.copy ≤ max_copy
  pub to : f.name.to ≡ i
  pub honest : IsHonest a f
