-- Why a run by threads has no journal.
use Rattle.std.specs.Prelude.{◌≡◌, ◌⊎◌, Option, None, Some}
use Rattle.adversary.specs.declared.fault.RunFault.{RunFault}
use Rattle.adversary.specs.declared.fault.RunFault.TheVariants as run
use Rattle.locked_buffers.specs.Seats.{Told}
use Rattle.node_threads.specs.declared.body.Halt.{Halt}
use Rattle.node_threads.specs.declared.body.Halt.TheVariants as halt
use Rattle.node_threads.specs.declared.fault.ThreadFault.{ThreadFault}
use Rattle.node_threads.specs.declared.fault.ThreadFault.TheVariants.{NoMemory, NoThread, Unmatched}

-- the one of both that is told: the one with the least number
abbrev pub least_of : ThreadFault → ThreadFault → ThreadFault
least_of NoMemory g = NoMemory
least_of NoThread NoMemory = NoMemory
least_of NoThread _ = NoThread
least_of Unmatched g = g

-- what is told once another fault comes up
abbrev pub with_least : Option ThreadFault → ThreadFault → Option ThreadFault
with_least None g = Some g
with_least (Some f) g = Some (least_of f g)

-- the fault of a run in which a thread halted
abbrev pub thread_fault : Halt → ThreadFault
thread_fault halt.NoMemory = NoMemory
thread_fault halt.Refused = Unmatched

-- the fault of the network's thread, if it has one: it wasn't started, or it couldn't go on
abbrev pub network_fault : Option (Told × Option Halt) → Option ThreadFault
network_fault None = Some NoThread
network_fault (Some (told, None)) = None
network_fault (Some (told, Some halt)) = Some (thread_fault halt)

-- the fault that is told of a run, if any, by that of its nodes' threads and by its network
abbrev pub told_fault : Option ThreadFault → Option (Told × Option Halt) → Option ThreadFault
told_fault None network = network_fault network
told_fault (Some f) None = Some (least_of f NoThread)
told_fault (Some f) (Some (told, None)) = Some f
told_fault (Some f) (Some (told, Some halt)) = Some (least_of f (thread_fault halt))

-- the fault as it is told
abbrev pub run_fault : ThreadFault → RunFault
run_fault NoMemory = run.NoMemory
run_fault NoThread = run.NoThread
run_fault Unmatched = run.Unmatched

-- it's a fault of threads, and not of what they were to run
abbrev pub IsOfThreads : RunFault → Type 0
IsOfThreads f = (f ≡ run.NoMemory) ⊎ (f ≡ run.NoThread) ⊎ (f ≡ run.Unmatched)
