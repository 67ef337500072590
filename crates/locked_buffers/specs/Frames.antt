-- The frames of a node's buffer: which are there, and what a call changes.
use Rattle.std.specs.Prelude.{◌≡◌, ℕ, ◌++◌, Bool, true, false, List, [], None, IsSome, Option}
use Rattle.std.specs.Prelude.{option_to_list}
use Rattle.step_machine.specs.Sealed.{Frame}
use Rattle.run_events.specs.declared.name.Name.{Name}
use Rattle.step_book.specs.Buffers.{IsSameRun, BufferView, flying_at}
use Rattle.step_book.specs.Tables.{HasPlace, Puts, SameTables}
use Rattle.step_journal.specs.Fits.{IsOfRun, place_among}
use Rattle.locked_buffers.specs.declared.node_buffer.NodeBuffer.{NodeBuffer}
use Rattle.locked_buffers.specs.Runs.{Run}

-- the frame in flight under this name, in a run of so many nodes
abbrev pub flying_as : ℕ → BufferView → Name → Option Frame
flying_as nodes s n = flying_at s n.round (place_among nodes n)

-- there is a place for a frame in flight under this name
abbrev pub HasPlaceFor : ℕ → BufferView → Name → Type 0
HasPlaceFor nodes s n = HasPlace s.flying n.round (place_among nodes n)

-- whether a frame is there
abbrev pub HasFrame : Option Frame → Bool → Type 0
HasFrame o true = IsSome o
HasFrame o false = o ≡ None

-- the buffer is this node's, and of the run
pub record IsBufferOf {P : Type 0} (r : Run P) (i : ℕ) (b : NodeBuffer) : Type 0 where
  pub own : b.node ≡ i
  pub of_run : IsOfRun r.program r.setup b.frames

-- the buffer is the receiver's, and this is whether a frame is in flight in it under the name
pub record IsSeen {P : Type 0} (r : Run P) (n : Name) (b : NodeBuffer) (has_frame : Bool)
    : Type 0 where
  pub buffer : IsBufferOf r n.to b
  pub frame : HasFrame (flying_as r.setup.nodes b.frames n) has_frame

-- the same frames, whatever room there is
pub record SameBuffer (old new : NodeBuffer) : Type 0 where
  pub own : new.node ≡ old.node
  pub run : IsSameRun old.frames new.frames
  pub flying : SameTables None old.frames.flying new.frames.flying
  pub waiting : new.frames.waiting ≡ old.frames.waiting

-- this is in flight under the name, and the rest is as it was
pub record PutsFrame (nodes : ℕ) (n : Name) (o : Option Frame) (old new : NodeBuffer)
    : Type 0 where
  pub own : new.node ≡ old.node
  pub run : IsSameRun old.frames new.frames
  pub flying : Puts None old.frames.flying new.frames.flying n.round (place_among nodes n) o
  pub waiting : new.frames.waiting ≡ old.frames.waiting

-- what was in flight under the name waits, after what waited
pub record LetsGo (nodes : ℕ) (n : Name) (old new : NodeBuffer) : Type 0 where
  pub own : new.node ≡ old.node
  pub run : IsSameRun old.frames new.frames
  pub flying : Puts None old.frames.flying new.frames.flying n.round (place_among nodes n) None
  pub waiting : new.frames.waiting
      ≡ old.frames.waiting ++ option_to_list (flying_as nodes old.frames n)

-- these frames waited; nothing waits now, and the rest is as it was
pub record TakesAll (frames : List Frame) (old new : NodeBuffer) : Type 0 where
  pub own : new.node ≡ old.node
  pub run : IsSameRun old.frames new.frames
  pub flying : new.frames.flying ≡ old.frames.flying
  pub taken : frames ≡ old.frames.waiting
  pub waiting : new.frames.waiting ≡ []
