-- What the network does to a copy of a message under the locks, act by act.
use Rattle.std.specs.Prelude.{◌≡◌, ◌<◌, ℕ, ⊤, Bool, true, false, Option, None, option_map}
use Rattle.run_events.specs.declared.event.Event.{Event}
use Rattle.run_events.specs.declared.event.Event.TheVariants as event
use Rattle.run_events.specs.declared.name.Name.{Name}
use Rattle.run_events.specs.Names.{original}
use Rattle.step_machine.specs.Sealed.{Frame, copied_as}
use Rattle.step_book.specs.Buffers.{BufferView}
use Rattle.step_book.specs.Effects.{Drops, MakesCopy, Releases}
use Rattle.step_book.specs.Log.{Recorded}
use Rattle.locked_buffers.specs.declared.act.Act.{Act}
use Rattle.locked_buffers.specs.declared.act.Act.TheVariants as act
use Rattle.locked_buffers.specs.declared.act.Found.{Found}
use Rattle.locked_buffers.specs.declared.fault.RelayFault.{RelayFault}
use Rattle.locked_buffers.specs.declared.fault.RelayFault.TheVariants as relay
use Rattle.locked_buffers.specs.declared.node_buffer.NodeBuffer.{NodeBuffer}
use Rattle.locked_buffers.specs.Commits.{Agrees}
use Rattle.locked_buffers.specs.Frames.{HasPlaceFor, IsSeen, LetsGo, PutsFrame, SameBuffer}
use Rattle.locked_buffers.specs.Frames.{flying_as}
use Rattle.locked_buffers.specs.Runs.{Run}

-- the event of an act
abbrev pub event_of : Act → Name → Event
event_of act.Release n = event.Release n
event_of act.Drop n = event.Drop n
event_of act.Copy n = event.Copy n

-- what it does to the record, with this answer
abbrev pub IsRecorded : {P : Type 0} → (P → ℕ → ℕ) → Act → Name → Bool → (old new : Recorded P)
    → Type 0
IsRecorded start act.Release n answer old new = Releases start n answer old new
IsRecorded start act.Drop n answer old new = Drops start n answer old new
IsRecorded start act.Copy n answer old new = MakesCopy start n answer old new

-- if a copy was made, copy 0's frame is in flight under its name too, and else nothing changed
abbrev pub AddsCopy : ℕ → Name → Bool → (old new : NodeBuffer) → Type 0
AddsCopy nodes n true old new =
    PutsFrame nodes n (option_map (copied_as n.copy) (flying_as nodes old.frames (original n))) old
    new
AddsCopy nodes n false old new = SameBuffer old new

-- what it does to the receiver's buffer
abbrev pub MovesFrame : ℕ → Act → Name → Bool → (old new : NodeBuffer) → Type 0
MovesFrame nodes act.Release n answer old new = LetsGo nodes n old new
MovesFrame nodes act.Drop n answer old new = PutsFrame nodes n None old new
MovesFrame nodes act.Copy n answer old new = AddsCopy nodes n answer old new

-- there is room for the frame where it brings one
abbrev pub HasRoomFor : ℕ → Act → Name → BufferView → Type 0
HasRoomFor nodes act.Release n s = 0 < s.spare
HasRoomFor nodes act.Drop n s = ⊤
HasRoomFor nodes act.Copy n s = HasPlaceFor nodes s n

-- the frame that it makes: copy 0's under the name of the copy
abbrev pub made_by : ℕ → Act → Name → BufferView → Option Frame
made_by nodes act.Release n s = None
made_by nodes act.Drop n s = None
made_by nodes act.Copy n s = option_map (copied_as n.copy) (flying_as nodes s (original n))

-- the buffer is ready for it, and this was found there
pub record IsReadyFor {P : Type 0} (r : Run P) (a : Act) (n : Name) (b : NodeBuffer)
    (found : Found) : Type 0 where
  pub seen : IsSeen r n b found.has_frame
  pub room : HasRoomFor r.setup.nodes a n b.frames
  pub copied : found.copied ≡ made_by r.setup.nodes a n b.frames

-- book and buffer are of the run, and agree on the copy; to make one, on copy 0 too
abbrev pub AgreesFor : {P : Type 0} → (P → ℕ → ℕ) → Run P → Act → BufferView → Recorded P → Name
    → Type 0
AgreesFor start r act.Release s b n = Agrees start r s b n
AgreesFor start r act.Drop s b n = Agrees start r s b n
AgreesFor start r act.Copy s b n = Agrees start r s b n × Agrees start r s b (original n)

-- why an act is refused: book and buffer don't agree, or there is no memory
abbrev pub ActFails : {P : Type 0} → (P → ℕ → ℕ) → Run P → Act → BufferView → Recorded P → Name
    → RelayFault → Type 0
ActFails start r a s b n relay.Stranger = ¬ AgreesFor start r a s b n
ActFails start r a s b n relay.NoMemory = AgreesFor start r a s b n
