-- Why an event is refused. The causes of one call exclude each other, and `NoMemory` goes last.
use Rattle.std.specs.Prelude.{◌≡◌, ◌≢◌, ◌<◌, ◌≤◌, ℕ, ◌-◌}
use Rattle.step_book.specs.declared.fault.SendFault.{SendFault}
use Rattle.step_book.specs.declared.fault.SendFault.TheVariants as send
use Rattle.step_book.specs.declared.fault.ReceiveFault.{ReceiveFault}
use Rattle.step_book.specs.declared.fault.ReceiveFault.TheVariants as receive
use Rattle.step_book.specs.declared.fault.CloseFault.{CloseFault}
use Rattle.step_book.specs.declared.fault.CloseFault.TheVariants as close
use Rattle.step_book.specs.declared.fault.IdleFault.{IdleFault}
use Rattle.step_book.specs.declared.fault.IdleFault.TheVariants as idle
use Rattle.step_book.specs.Log.{Log, IsDue, IsSlot, IsReceive, history, round_of, state_before}
use Rattle.step_book.specs.Log.{world_of}
use Rattle.step_book.specs.Work.{AreCarried}
use Rattle.step_machine.specs.Sealed.{Ready}
use Rattle.step_machine.specs.Nodes.{NodeView, held_now}

-- the sender has no open due round, the slot is its next step, and the state is the recorded one
abbrev pub IsSendFit : (ℕ → ℕ) → Log → Ready → Type 0
IsSendFit start v p = (¬ IsDue start v p.name.from) × IsSlot start v p.name
    × (state_before v p.name.from p.name.round ≡ p.state)

-- why a send is refused
abbrev pub SendCause : (ℕ → ℕ) → Log → Ready → SendFault → Type 0
SendCause start v p send.NotClosed = IsDue start v p.name.from
SendCause start v p send.NotItsSlot = (¬ IsDue start v p.name.from) × (¬ IsSlot start v p.name)
SendCause start v p send.Stranger =
    (¬ IsDue start v p.name.from) × IsSlot start v p.name
    × (state_before v p.name.from p.name.round ≢ p.state)
SendCause start v p send.NoMemory = IsSendFit start v p

-- the node has no open due round, and its next step is a receive
abbrev pub IsReceiveFit : (ℕ → ℕ) → Log → ℕ → Type 0
IsReceiveFit start v i = (¬ IsDue start v i) × IsReceive start v i

-- why a receive is refused
abbrev pub ReceiveCause : (ℕ → ℕ) → Log → ℕ → ReceiveFault → Type 0
ReceiveCause start v i receive.NotClosed = IsDue start v i
ReceiveCause start v i receive.NotItsSlot = (¬ IsDue start v i) × (¬ IsReceive start v i)
ReceiveCause start v i receive.NoMemory = IsReceiveFit start v i

-- the node's round is due, and is the one that it finished
abbrev pub IsDueIn : (ℕ → ℕ) → Log → NodeView → Type 0
IsDueIn start v n = IsDue start v n.me × (round_of v n.me ≡ n.round)

-- it finished from its recorded state with what was carried to it
abbrev pub EndsAsRecorded : (ℕ → ℕ) → Log → NodeView → Type 0
EndsAsRecorded start v n =
    (state_before v n.me n.round ≡ n.state)
    × AreCarried (world_of start v) (history v) n.me (n.round - 1) (held_now n)

-- why a round isn't closed
abbrev pub CloseCause : (ℕ → ℕ) → Log → NodeView → CloseFault → Type 0
CloseCause start v n close.NotDue = ¬ IsDueIn start v n
CloseCause start v n close.Stranger = IsDueIn start v n × (¬ EndsAsRecorded start v n)
CloseCause start v n close.NoMemory = IsDueIn start v n × EndsAsRecorded start v n

-- why an idle step is refused
abbrev pub IdleCause : Log → ℕ → IdleFault → Type 0
IdleCause v i idle.NotPast = round_of v i ≤ v.setup.rounds
IdleCause v i idle.NoMemory = v.setup.rounds < round_of v i
