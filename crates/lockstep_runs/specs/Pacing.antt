-- What holds while a lockstep run is made.
use Rattle.std.specs.Prelude.{◌≡◌, ℕ, ◌<◌, ◌≤◌, false, List, Option, Some, None}
use Rattle.std.specs.BTreeMap as tree
use Rattle.std.specs.BTreeMap.{BTreeMap}
use Rattle.std.specs.Ordering.{nat_cmp, ordering_then}
use Rattle.step_book.specs.Log.{Log, Recorded, history, world_of}
use Rattle.step_book.specs.Trace.{steps}
use Rattle.step_book.specs.World.{IsPlan, World, nodes_of}
use Rattle.run_events.specs.declared.event.Event.{Event}
use Rattle.run_events.specs.declared.name.Name.{Name}
use Rattle.lockstep_runs.specs.Lockstep.{AllBefore, Each, IsAloft, IsBefore, Key, MayHappen, due_in}
use Rattle.lockstep_runs.specs.Lockstep.{key_of}
use Rattle.lockstep_runs.specs.Timing.{Timing, steps_in}
use Rattle.step_book.specs.Serials.{sent, serial}

-- messages by the tick in which they're due and by their serials
abbrev pub Flight : Type 0
Flight = BTreeMap (ℕ × ℕ) Name

-- the message that is due in a tick and has this serial
abbrev pub waits_at : Flight → ℕ → ℕ → Option Name
waits_at f tick turn =
    tree.get (λ x y. ordering_then (nat_cmp x.0 y.0) (nat_cmp x.1 y.1)) f (tick, turn)

-- the message is in flight and not omitted, due in this tick, and has this serial
pub record Flies (w : World) (timing : Timing) (t : List Event)
    (tick turn : ℕ) (n : Name) : Type 0 where
  pub aloft : IsAloft w t n
  pub kept : timing.omits n ≡ false
  pub due : tick ≡ due_in w timing t n
  pub place : turn ≡ serial w t n
  pub sent : turn < sent w t

-- each message in flight that isn't omitted stands there, and nothing else
pub record HoldsByTicks (w : World) (timing : Timing) (t : List Event) (f : Flight) : Type 0 where
  pub only : (tick turn : ℕ) (n : Name) → waits_at f tick turn ≡ Some n
      → Flies w timing t tick turn n
  pub all : (n : Name) → IsAloft w t n → timing.omits n ≡ false
      → waits_at f (due_in w timing t n) (serial w t n) ≡ Some n

-- the run was one of lockstep so far, up to a key
pub record IsPaced (w : World) (timing : Timing) (ticks : ℕ) (up_to : Key)
    (t : List Event) (f : Flight) : Type 0 where
  pub plan : IsPlan w
  pub events : Each (MayHappen w timing ticks) t
  pub rising : Each (λ e past. AllBefore w timing (key_of w timing e past) past) t
  pub before : AllBefore w timing up_to t
  pub flight : HoldsByTicks w timing t f

-- the flight is that of the run that is recorded
abbrev pub IsFlightIn : (ℕ → ℕ) → Log → Timing → Flight → Type 0
IsFlightIn start v timing f = HoldsByTicks (world_of start v) timing (history v) f

-- the run that is recorded was one of lockstep so far
abbrev pub IsPacedIn : (ℕ → ℕ) → Log → Timing → ℕ → Key → Flight → Type 0
IsPacedIn start v timing ticks up_to f =
    IsPaced (world_of start v) timing ticks up_to (history v) f

-- the key with which a tick begins
abbrev pub tick_key : ℕ → Key
tick_key tick = record { tick = tick; part = 0; turn = 0 }

-- nothing that is in flight is due before a tick
abbrev pub NoneBefore : Flight → ℕ → Type 0
NoneBefore f tick = (due turn : ℕ) (n : Name) → waits_at f due turn ≡ Some n → tick ≤ due

-- how many steps each node took: one in each tick that is over, until it stopped
abbrev pub AreSteps : World → Timing → List Event → ℕ → Type 0
AreSteps w timing t ticks =
    (i : ℕ) → i < nodes_of w → steps i t ≡ steps_in ticks (timing.stop i)

-- the same program, setup and plan
pub record IsSameRun {P : Type 0} (old new : Recorded P) : Type 0 where
  pub program : new.log.program ≡ old.log.program
  pub setup : new.log.setup ≡ old.log.setup
  pub planned : new.plan ≡ old.plan

-- the key of the release of what is due in a tick and has this serial
abbrev pub due_key : ℕ → ℕ → Key
due_key due turn = record { tick = due; part = 0; turn = turn }

-- another place than this one
abbrev pub IsOther : ℕ → ℕ → ℕ → ℕ → Type 0
IsOther due turn d k = (d ≡ due) × (k ≡ turn) → ⊥

-- the message with the least key left the flight, and was due by then
pub record IsPopped (old new : Flight) (now : ℕ) (n : Name) : Type 0 where
  pub due : ℕ
  pub turn : ℕ
  pub by_then : due ≤ now
  pub there : waits_at old due turn ≡ Some n
  pub gone : waits_at new due turn ≡ None
  pub others : (d k : ℕ) → IsOther due turn d k → waits_at new d k ≡ waits_at old d k
  pub least : (d k : ℕ) (m : Name) → waits_at new d k ≡ Some m
      → IsBefore (due_key due turn) (due_key d k)
  pub fewer : tree.btree_map_len new < tree.btree_map_len old
