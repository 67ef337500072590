-- Runs in lockstep: each node takes one step in each tick until it stops, and each message has its
-- delay.
use Rattle.std.specs.Prelude.{◌≡◌, ℕ, ◌+◌, ◌-◌, ◌%◌, ◌<◌, ◌≤◌, ◌⊎◌, true, false, List, []}
use Rattle.std.specs.Prelude.{◌∷◌, length, IfSome, Option}
use Rattle.policies.specs.declared.bounded.Bounded.{Bounded}
use Rattle.round_meaning.specs.declared.setup.Setup.{Setup}
use Rattle.round_meaning.specs.Nodes.{has_node}
use Rattle.round_meaning.specs.Setups.{IsLawful}
use Rattle.omission_explainer.specs.Verdict.{HearsFrom}
use Rattle.slot_plans.specs.Plan.{IsClearRound, IsDelta}
use Rattle.step_book.specs.declared.mark.Mark.TheVariants.{Flying}
use Rattle.step_book.specs.History.{mark_of}
use Rattle.step_book.specs.Log.{Log}
use Rattle.step_book.specs.Names.{IsNameOf}
use Rattle.step_book.specs.Trace.{steps}
use Rattle.step_book.specs.World.{World, nodes_of}
use Rattle.run_events.specs.Events.{of_event}
use Rattle.run_events.specs.declared.event.Event.{Event}
use Rattle.run_events.specs.declared.event.Event.TheVariants.{Step, Release, Drop, Copy}
use Rattle.run_events.specs.declared.in_flight.InFlight.{InFlight}
use Rattle.run_events.specs.declared.name.Name.{Name}
use Rattle.step_book.specs.Serials.{serial}
use Rattle.lockstep_runs.specs.Changes.{timing_by, timing_of}
use Rattle.lockstep_runs.specs.Timing.{Timing, steps_in}
use Rattle.lockstep_runs.specs.declared.changes.Changes.{Changes}

-- where an event stands in a run: its tick, the part of the tick, which is 0 for releases and 1 for
-- the steps after them, and its turn there
pub record Key : Type 0 where
  pub tick : ℕ
  pub part : ℕ
  pub turn : ℕ

-- the first key is the smaller one
pub data IsBefore (a b : Key) : Type 0 where
  Tick : a.tick < b.tick → IsBefore a b
  Part : a.tick ≡ b.tick → a.part < b.part → IsBefore a b
  Turn : a.tick ≡ b.tick → a.part ≡ b.part → a.turn < b.turn → IsBefore a b

-- a message by its name, with its sender's step number and its serial
abbrev pub in_flight : World → List Event → Name → InFlight
in_flight w t n = record { name = n; sent_at = w.start n.round + n.to; serial = serial w t n }

-- the tick in which it's released, if it isn't omitted
abbrev pub due_in : World → Timing → List Event → Name → ℕ
due_in w timing t n = timing.due (in_flight w t n)

-- the node that steps first in a tick
abbrev pub first_in : Timing → ℕ → ℕ → ℕ
first_in timing nodes tick = timing.first tick % nodes

-- a node's turn in a tick: they step in their order from the first on, and round again
abbrev pub turn_in : Timing → ℕ → ℕ → ℕ → ℕ
turn_in timing nodes tick i = (i + nodes - first_in timing nodes tick) % nodes

-- a step's key, by how many steps of the node went before it
abbrev pub step_key : Timing → ℕ → ℕ → ℕ → Key
step_key timing nodes i tick =
    record { tick = tick; part = 1; turn = turn_in timing nodes tick i }

-- a release's key
abbrev pub release_key : World → Timing → List Event → Name → Key
release_key w timing t n = record { tick = due_in w timing t n; part = 0; turn = serial w t n }

-- the key of an event, by what went before it
abbrev pub key_of : World → Timing → Event → List Event → Key
key_of w timing e past =
    of_event (λ i. step_key timing (nodes_of w) i (steps i past)) (release_key w timing past) e

-- it holds of each event of a history, which has the newest first, and of what went before it
unfoldable pub Each : (Event → List Event → Type 0) → List Event → Type 0
Each Holds [] = Unit {0}
Each Holds (e ∷ past) = Holds e past × Each Holds past

-- the keys of all events are smaller than this one
abbrev pub AllBefore : World → Timing → Key → List Event → Type 0
AllBefore w timing k t = Each (λ e past. IsBefore (key_of w timing e past) k) t

-- the name is of copy 0 of a message of the run
pub record IsOriginal (w : World) (n : Name) : Type 0 where
  pub named : IsNameOf (nodes_of w) w.rounds n
  pub first : n.copy ≡ 0

-- the message is in flight, by its copy 0
pub record IsAloft (w : World) (t : List Event) (n : Name) : Type 0 where
  pub original : IsOriginal w n
  pub flies : mark_of w t n ≡ Flying

-- a message in flight is released in its tick, below `ticks`, if it isn't omitted
pub record IsReleased (w : World) (timing : Timing) (ticks : ℕ) (n : Name)
    (past : List Event) : Type 0 where
  pub aloft : IsAloft w past n
  pub kept : timing.omits n ≡ false
  pub due : due_in w timing past n < ticks

-- a run has steps of nodes that haven't stopped, and releases
abbrev pub MayHappen : World → Timing → ℕ → Event → List Event → Type 0
MayHappen w timing ticks (Step i) past = IfSome (timing.stop i) (λ stop. steps i past < stop)
MayHappen w timing ticks (Release n) past = IsReleased w timing ticks n past
MayHappen w timing ticks (Drop n) past = ⊥
MayHappen w timing ticks (Copy n) past = ⊥

-- a history is one of lockstep over so many ticks
pub record IsTimedRun (w : World) (timing : Timing) (ticks : ℕ) (t : List Event) : Type 0 where
  pub events : Each (MayHappen w timing ticks) t
  -- the keys rise from each event to all that are newer
  pub rising : Each (λ e past. AllBefore w timing (key_of w timing e past) past) t
  -- each node takes one step in each tick until it stops
  pub steps : (i : ℕ) → i < nodes_of w → steps i t ≡ steps_in ticks (timing.stop i)
  -- a message that is still in flight is omitted, or due later
  pub released : (n : Name) → IsAloft w t n
      → (timing.omits n ≡ true) ⊎ (ticks ≤ due_in w timing t n)

-- the same by the tables, for these correct nodes and with these changes
abbrev pub IsChangedRun : World → Bounded → Changes → ℕ → ℕ → List Event → Type 0
IsChangedRun w b c correct ticks t = IsTimedRun w (timing_by b c correct) ticks t

-- the same with no changes: each correct node takes as many steps, and no other takes one
abbrev pub IsLockstepRun : World → Bounded → ℕ → ℕ → List Event → Type 0
IsLockstepRun w b correct ticks t = IsTimedRun w (timing_of b [] [] [] correct) ticks t

-- from the plan's clear round on, if it has one, no closed round of a correct node omits the
-- message of a correct node
abbrev pub HearsFromClear : (receives start : ℕ → ℕ) → Log → ℕ → ℕ → ℕ → Type 0
HearsFromClear receives start v correct delta gst =
    (clear : Option ℕ) → IsClearRound receives start delta gst clear
    → IfSome clear (HearsFrom start v correct)

-- the most entries that a table may have
abbrev pub max_entries : ℕ
max_entries = 65536

-- the setup is lawful, the correct nodes are nodes of it, and the bound and the tables are within
-- their limits
pub record IsFit (values : ℕ) (s : Setup) (correct : ℕ) (b : Bounded) : Type 0 where
  pub lawful : IsLawful values s
  pub nodes : (i : ℕ) → has_node correct i ≡ true → i < s.nodes
  pub delta : IsDelta b.delta
  pub delays : length b.delays ≤ max_entries
  pub orders : length b.orders ≤ max_entries
