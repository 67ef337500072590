-- The ticks of a run in lockstep in which all rounds are over and nothing is in flight: each node
-- that hasn't stopped takes a step, and nothing else happens.
use Rattle.std.specs.Prelude.{ℕ, zero, suc, ◌+◌, ◌%◌, Bool, true, if◌then◌else◌, List, [], ◌∷◌}
use Rattle.std.specs.Prelude.{◌++◌}
use Rattle.std.specs.Prelude.{Option, Some, None, nat_lt}
use Rattle.adversary.specs.Driving.{ClosedAreDue}
use Rattle.omission_explainer.specs.Verdict.{IsDelayBound, IsLockstep}
use Rattle.policies.specs.declared.bounded.Bounded.{Bounded}
use Rattle.step_book.specs.Agreed.{JournalAgrees}
use Rattle.step_book.specs.Log.{Log, history, mark_in, waiting_in, world_of}
use Rattle.run_events.specs.declared.event.Event.{Event}
use Rattle.run_events.specs.declared.event.Event.TheVariants.{Step}
use Rattle.lockstep_runs.specs.Changes.{SparesCorrect}
use Rattle.lockstep_runs.specs.Lockstep.{HearsFromClear, IsChangedRun, first_in}
use Rattle.lockstep_runs.specs.Timing.{Timing}
use Rattle.lockstep_runs.specs.declared.changes.Changes.{Changes}

-- a node that stops so hasn't stopped by this tick
abbrev pub goes_on : Option ℕ → ℕ → Bool
goes_on None tick = true
goes_on (Some stop) tick = nat_lt tick stop

-- the node whose turn it is in a tick
abbrev pub node_in_turn : Timing → (nodes tick turn : ℕ) → ℕ
node_in_turn timing nodes tick turn = (first_in timing nodes tick + turn) % nodes

-- its step, if it hasn't stopped
abbrev pub turn_step : Timing → (nodes tick turn : ℕ) → List Event
turn_step timing nodes tick turn =
    let i = node_in_turn timing nodes tick turn in
    if goes_on (timing.stop i) tick then Step i ∷ [] else []

-- no step, or this node's
abbrev pub step_list : Option ℕ → List Event
step_list None = []
step_list (Some i) = Step i ∷ []

-- the steps of the first turns of a tick
unfoldable pub turn_steps : Timing → (nodes tick turns : ℕ) → List Event
turn_steps timing nodes tick zero = []
turn_steps timing nodes tick (suc turn) =
    turn_steps timing nodes tick turn ++ turn_step timing nodes tick turn

-- the steps of so many ticks, from this one on
unfoldable pub idle_steps : Timing → (nodes first count : ℕ) → List Event
idle_steps timing nodes first zero = []
idle_steps timing nodes first (suc count) =
    idle_steps timing nodes first count ++ turn_steps timing nodes (first + count) nodes

-- the run with these events behind its own
abbrev pub followed : Log → List Event → Log
followed v events = record v { trace = v.trace ++ events }

-- the run is one of lockstep over so many ticks, agrees with the run in rounds, and has what the
-- correct nodes are promised
pub record IsWholeRun (start receives : ℕ → ℕ) (b : Bounded) (c : Changes) (correct ticks : ℕ)
    (v : Log) : Type 0 where
  pub agrees : JournalAgrees start v (mark_in start v) (waiting_in start v)
  pub closed : ClosedAreDue start v
  pub run : IsChangedRun (world_of start v) b c correct ticks (history v)
  pub paced : IsLockstep v.trace correct
  pub bound : SparesCorrect correct b.delta c → IsDelayBound start v correct b.delta b.gst
  pub hears : SparesCorrect correct b.delta c
      → HearsFromClear receives start v correct b.delta b.gst
