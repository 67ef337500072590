-- When what stands under the locks lets a call go through, and what the network is told of one.
use Rattle.std.specs.Prelude.{◌≡◌, ℕ, ⊤, ◌++◌, Bool, true, false, All, List, [], ◌∷◌, Option}
use Rattle.run_events.specs.declared.event.Event.{Event}
use Rattle.step_machine.specs.Sealed.{Frame, Ready}
use Rattle.step_machine.specs.Nodes.{NodeView}
use Rattle.run_events.specs.declared.name.Name.{Name}
use Rattle.step_book.specs.declared.mark.Mark.{Mark}
use Rattle.step_book.specs.declared.mark.Mark.TheVariants.{Flying}
use Rattle.step_book.specs.Causes.{IsDueIn, EndsAsRecorded, IsReceiveFit, IsSendFit}
use Rattle.step_book.specs.Log.{Recorded, mark_in, waiting_in}
use Rattle.step_book.specs.Buffers.{BufferView, IsMail, names_in}
use Rattle.step_book.specs.Names.{IsName}
use Rattle.step_journal.specs.Fits.{IsOfRun}
use Rattle.step_book.specs.declared.fault.CloseFault.{CloseFault}
use Rattle.step_book.specs.declared.fault.CloseFault.TheVariants as close
use Rattle.step_book.specs.declared.fault.SendFault.{SendFault}
use Rattle.step_book.specs.declared.fault.SendFault.TheVariants as send
use Rattle.locked_buffers.specs.declared.fault.PostFault.{PostFault}
use Rattle.locked_buffers.specs.declared.fault.PostFault.TheVariants as post
use Rattle.locked_buffers.specs.declared.fault.RelayFault.{RelayFault}
use Rattle.locked_buffers.specs.declared.fault.RelayFault.TheVariants as relay
use Rattle.locked_buffers.specs.Frames.{HasFrame, flying_as}
use Rattle.locked_buffers.specs.Runs.{IsBookOfRun, Run, algorithm_by}
use Rattle.locked_buffers.specs.Seats.{Told}

-- what the network was told, with one event more and its answer
abbrev pub told_with : Told → Event → Bool → Told
told_with t e b = record { events = t.events ++ e ∷ []; answers = t.answers ++ b ∷ [] }

-- a frame is there just if the mark says that the copy is in flight
pub record HoldsFrame (m : Mark) (o : Option Frame) : Type 0 where
  pub flies : m ≡ Flying → HasFrame o true
  pub stays : (m ≡ Flying → ⊥) → HasFrame o false

-- the book is of the run, so is the buffer, and it has a frame at the place of this name just if
-- the book says that the copy is in flight
pub record Agrees {P : Type 0} (start : P → ℕ → ℕ) (r : Run P) (s : BufferView)
    (b : Recorded P) (n : Name)
    : Type 0 where
  pub book : IsBookOfRun r b
  pub buffer : IsOfRun r.program r.setup s
  pub frame : HoldsFrame (mark_in (start b.plan) b.log n) (flying_as b.log.setup.nodes s n)

-- they agree, and the book takes the send
abbrev pub TakesSend : {P : Type 0} → (P → ℕ → ℕ) → Run P → BufferView → Recorded P → Ready → Type 0
TakesSend start r s b p = Agrees start r s b p.name × IsSendFit (start b.plan) b.log p

-- both are of the run, the frames that wait have the names that the book has for the node, and it
-- takes the receive
pub record TakesReceive {P : Type 0} (start : P → ℕ → ℕ) (r : Run P) (s : BufferView)
    (b : Recorded P) (i : ℕ)
    : Type 0 where
  pub book : IsBookOfRun r b
  pub buffer : IsOfRun r.program r.setup s
  pub names : names_in s.waiting ≡ waiting_in (start b.plan) b.log i
  pub fit : IsReceiveFit (start b.plan) b.log i

-- the frames may be handed out to node i of the run
abbrev pub AreMail : {P : Type 0} → Run P → ℕ → List Frame → Type 0
AreMail r i frames = All (IsMail (algorithm_by r) r.setup.nodes i) frames

-- the book is of the run, and takes the end of the round
pub record TakesClose {P : Type 0} (start : P → ℕ → ℕ) (r : Run P) (b : Recorded P) (n : NodeView)
    : Type 0 where
  pub book : IsBookOfRun r b
  pub due : IsDueIn (start b.plan) b.log n
  pub known : EndsAsRecorded (start b.plan) b.log n

-- the buffer is of the run, and what waits in it has names of messages of the run
pub record IsReadable {P : Type 0} (r : Run P) (s : BufferView) : Type 0 where
  pub buffer : IsOfRun r.program r.setup s
  pub known : All (IsName r.setup) (names_in s.waiting)

-- why the names of frames aren't noted: not all are of messages of the run, or there is no memory
abbrev pub IsUnnamed : {P : Type 0} → Run P → List Frame → PostFault → Type 0
IsUnnamed r frames post.NotClosed = ⊥
IsUnnamed r frames post.NotItsSlot = ⊥
IsUnnamed r frames post.Stranger = ¬ All (IsName r.setup) (names_in frames)
IsUnnamed r frames post.NoMemory = ⊤

-- why a buffer isn't read for a receive
abbrev pub IsUnread : {P : Type 0} → Run P → BufferView → PostFault → Type 0
IsUnread r s post.NotClosed = ⊥
IsUnread r s post.NotItsSlot = ⊥
IsUnread r s post.Stranger = ¬ IsReadable r s
IsUnread r s post.NoMemory = IsOfRun r.program r.setup s

-- the fault of a send whose buffer isn't ready
abbrev pub send_fault : RelayFault → SendFault
send_fault relay.Stranger = send.Stranger
send_fault relay.NoMemory = send.NoMemory

-- why a buffer isn't made ready for a call
abbrev pub IsUnready : {P : Type 0} → Run P → BufferView → RelayFault → Type 0
IsUnready r s relay.Stranger = ¬ IsOfRun r.program r.setup s
IsUnready r s relay.NoMemory = IsOfRun r.program r.setup s

-- why a send that the seat allows is refused: under the locks it doesn't go, or there is no memory
abbrev pub SendFails : {P : Type 0} → (P → ℕ → ℕ) → Run P → BufferView → Recorded P → Ready
    → SendFault → Type 0
SendFails start r s b p send.NotClosed = ⊥
SendFails start r s b p send.NotItsSlot = ⊥
SendFails start r s b p send.Stranger = ¬ TakesSend start r s b p
SendFails start r s b p send.NoMemory = TakesSend start r s b p

-- why a receive is
abbrev pub ReceiveFails : {P : Type 0} → (P → ℕ → ℕ) → Run P → BufferView → Recorded P → ℕ
    → PostFault → Type 0
ReceiveFails start r s b i post.NotClosed = ⊥
ReceiveFails start r s b i post.NotItsSlot = ⊥
ReceiveFails start r s b i post.Stranger = ¬ TakesReceive start r s b i
ReceiveFails start r s b i post.NoMemory = IsBookOfRun r b

-- why a close is
abbrev pub CloseFails : {P : Type 0} → (P → ℕ → ℕ) → Run P → Recorded P → NodeView → CloseFault →
    Type 0
CloseFails start r b n close.NotDue = ⊥
CloseFails start r b n close.Stranger = ¬ TakesClose start r b n
CloseFails start r b n close.NoMemory = IsBookOfRun r b

-- why a record isn't read
abbrev pub IsUnreadable : {P : Type 0} → Run P → Recorded P → RelayFault → Type 0
IsUnreadable r b relay.Stranger = ¬ IsBookOfRun r b
IsUnreadable r b relay.NoMemory = IsBookOfRun r b

-- why some record isn't read: it's of another run, or it's of this one and memory is refused
abbrev pub IsUnreadableInRun : {P : Type 0} → Run P → RelayFault → Type 0
IsUnreadableInRun {P} r fault = (one : Recorded P) × IsUnreadable r one fault
