-- What a node and the network were told, and what a node may do next by that alone.
use Rattle.std.specs.Prelude.{◌≡◌, ℕ, ◌+◌, ◌≤◌, Bool, List, [], ◌∷◌, length}
use Rattle.round_lang.specs.Syntax.{ProgramTree}
use Rattle.round_meaning.specs.Rounds.{algorithm_of}
use Rattle.round_meaning.specs.declared.setup.Setup.{Setup}
use Rattle.step_book.specs.Agreement.{Row}
use Rattle.step_book.specs.declared.fault.CloseFault.{CloseFault}
use Rattle.step_book.specs.declared.fault.CloseFault.TheVariants as close
use Rattle.step_book.specs.declared.fault.SendFault.{SendFault}
use Rattle.step_book.specs.declared.fault.SendFault.TheVariants as send
use Rattle.run_events.specs.declared.event.Event.{Event}
use Rattle.run_events.specs.declared.name.Name.{Name}
use Rattle.locked_buffers.specs.declared.fault.PostFault.{PostFault}
use Rattle.locked_buffers.specs.declared.fault.PostFault.TheVariants as post

-- a node, its steps, the names that each of its receives handed out, and its states after 0, 1, ..
-- closed rounds
pub record Account : Type 0 where
  pub node : ℕ
  pub steps : ℕ
  pub handed : List (List Name)
  pub states : Row

-- the events of the network, and the answer to each
pub record Told : Type 0 where
  pub events : List Event
  pub answers : List Bool

-- a node that was told nothing but its first state
abbrev pub opening : ProgramTree → Setup → ℕ → Account
opening p s i = record { node = i; steps = 0; handed = []; states = (algorithm_of p s).init i ∷ [] }

-- its round: the first that isn't closed
abbrev pub round_by : Account → ℕ
round_by a = length a.states

-- its round is due and isn't closed
abbrev pub IsDueBy : (ℕ → ℕ) → ℕ → Account → Type 0
IsDueBy start rounds a = (round_by a ≤ rounds) × (start (round_by a + 1) ≤ a.steps)

-- its next step is the message's slot
abbrev pub IsSlotBy : (ℕ → ℕ) → Account → Name → Type 0
IsSlotBy start a n = a.steps ≡ start n.round + n.to

-- its next step is a receive of its round
abbrev pub IsReceiveBy : (ℕ → ℕ) → ℕ → ℕ → Account → Type 0
IsReceiveBy start nodes rounds a = (round_by a ≤ rounds) × (start (round_by a) + nodes ≤ a.steps)

-- it may send the message now
abbrev pub MaySend : (ℕ → ℕ) → ℕ → Account → Name → Type 0
MaySend start rounds a n = (¬ IsDueBy start rounds a) × IsSlotBy start a n

-- it may receive now
abbrev pub MayReceive : (ℕ → ℕ) → ℕ → ℕ → Account → Type 0
MayReceive start nodes rounds a = (¬ IsDueBy start rounds a) × IsReceiveBy start nodes rounds a

-- it may close this round now
abbrev pub MayClose : (ℕ → ℕ) → ℕ → Account → ℕ → Type 0
MayClose start rounds a r = IsDueBy start rounds a × (round_by a ≡ r)

-- why a send is refused, by the node's own counts
abbrev pub SendBlame : (ℕ → ℕ) → ℕ → Account → Name → SendFault → Type 0
SendBlame start rounds a n send.NotClosed = IsDueBy start rounds a
SendBlame start rounds a n send.NotItsSlot = (¬ IsDueBy start rounds a) × (¬ IsSlotBy start a n)
SendBlame start rounds a n send.Stranger = MaySend start rounds a n
SendBlame start rounds a n send.NoMemory = MaySend start rounds a n

-- why a receive is refused, by the node's own counts
abbrev pub ReceiveBlame : (ℕ → ℕ) → ℕ → ℕ → Account → PostFault → Type 0
ReceiveBlame start nodes rounds a post.NotClosed = IsDueBy start rounds a
ReceiveBlame start nodes rounds a post.NotItsSlot =
    (¬ IsDueBy start rounds a) × (¬ IsReceiveBy start nodes rounds a)
ReceiveBlame start nodes rounds a post.Stranger = MayReceive start nodes rounds a
ReceiveBlame start nodes rounds a post.NoMemory = MayReceive start nodes rounds a

-- why a close is refused, by the node's own counts
abbrev pub CloseBlame : (ℕ → ℕ) → ℕ → Account → ℕ → CloseFault → Type 0
CloseBlame start rounds a r close.NotDue = ¬ MayClose start rounds a r
CloseBlame start rounds a r close.Stranger = MayClose start rounds a r
CloseBlame start rounds a r close.NoMemory = MayClose start rounds a r
