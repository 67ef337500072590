-- What the network does by a choice.
use Rattle.std.specs.Prelude.{ℕ, List, Option, None, Some}
use Rattle.adversary.specs.Asking.{AnswerComesTo}
use Rattle.locked_buffers.specs.declared.fault.RelayFault.{RelayFault}
use Rattle.locked_buffers.specs.declared.fault.RelayFault.TheVariants as relay
use Rattle.locked_buffers.specs.Runs.{IsNextCopyInRun, Run}
use Rattle.node_threads.specs.declared.body.Halt.{Halt}
use Rattle.node_threads.specs.declared.body.Halt.TheVariants as halt
use Rattle.policies.specs.declared.policy.Choice.{Choice}
use Rattle.step_book.specs.Log.{Recorded}
use Rattle.run_events.specs.declared.event.Event.{Event}
use Rattle.run_events.specs.declared.event.Event.TheVariants.{Copy}
use Rattle.run_events.specs.declared.in_flight.InFlight.{InFlight}
use Rattle.run_events.specs.declared.name.Name.{Name}

-- what an answer of the policy over these messages in flight comes to, after the events of some
-- record
abbrev pub ComesToInOne : {P : Type 0} → (P → ℕ → ℕ) → List InFlight → Option Choice → Option Event
    → Type 0
ComesToInOne {P} start flight answer o =
    (one : Recorded P) × AnswerComesTo (start one.plan) one.log flight answer o

-- the event makes the least copy of this message that can be made after the events of some record
-- of the run, and there is none exactly if no copy can be
abbrev pub IsCopyInRun : {P : Type 0} → (P → ℕ → ℕ) → Run P → Name → Option Event → Type 0
IsCopyInRun start r n None = IsNextCopyInRun start r n None
IsCopyInRun start r n (Some (Copy m)) = IsNextCopyInRun start r n (Some m)
IsCopyInRun start r n (Some _) = ⊥

-- why a thread can't go on, by why an event of the network was refused
abbrev pub halt_of : RelayFault → Halt
halt_of relay.NoMemory = halt.NoMemory
halt_of relay.Stranger = halt.Refused
