-- What a record says of each place of its trace, by the places before that one.
use Rattle.std.specs.Prelude.{◌≡◌, ◌≢◌, ◌↔◌, ℕ, ◌+◌, ◌≤◌, ◌++◌, ◌∷◌, [], Bool, IsTrue, List, Some}
use Rattle.std.specs.Prelude.{length, take}
use Rattle.std.specs.List.{count_by, slice_get}
use Rattle.run_events.specs.declared.event.Event.{Event}
use Rattle.run_events.specs.declared.event.Event.TheVariants.{Step, Release, Drop, Copy}
use Rattle.run_events.specs.declared.name.Name.{Name}
use Rattle.run_events.specs.Names.{original}
use Rattle.step_book.specs.Agreed.{IsInBuffer, IsInFlight}
use Rattle.step_book.specs.History.{answers_of, handed_of}
use Rattle.step_book.specs.Log.{IsFlying, Log, history, waiting_in, world_of}
use Rattle.step_book.specs.Names.{IsName}
use Rattle.step_book.specs.Places.{IsMadeAt, IsReceiveAt}
use Rattle.step_book.specs.Trace.{is_name}

-- the run up to a place: the events before it
abbrev pub up_to : ℕ → Log → Log
up_to place v = record v { trace = take place v.trace }

-- what the receives of node i handed out, in their order
abbrev pub handed_by : (ℕ → ℕ) → Log → ℕ → List (List Name)
handed_by start v i = handed_of (world_of start v) i (history v)

-- what the network's events were answered, in their order
abbrev pub answers_in : (ℕ → ℕ) → Log → List Bool
answers_in start v = answers_of (world_of start v) (history v)

-- An event of the network does something to a run, by the places in its trace: a release or a drop
-- of a copy in flight, and the making of a copy that wasn't made while copy 0 is in flight.
abbrev pub DoesSomething : (ℕ → ℕ) → Log → Event → Type 0
DoesSomething start v (Step i) = ⊥
DoesSomething start v (Release n) = IsInFlight start v n
DoesSomething start v (Drop n) = IsInFlight start v n
DoesSomething start v (Copy n) =
    IsInFlight start v (original n) × ((a : ℕ) → ¬ IsMadeAt (world_of start v) v.trace n a)

-- at each place the record is what stands before it
pub record MomentsAgree (start : ℕ → ℕ) (v : Log) : Type 0 where
  -- a copy is in flight there, or waits there, once, exactly if that's so by the places before
  pub flies : (place : ℕ) (n : Name) → IsName v.setup n
      → IsFlying start (up_to place v) n ↔ IsInFlight start (up_to place v) n
  pub waits : (place : ℕ) (n : Name) → IsName v.setup n
      → (count_by (is_name n) (waiting_in start (up_to place v) n.to) ≡ 1)
      ↔ IsInBuffer start (up_to place v) n
  pub once : (place : ℕ) (n : Name) → IsName v.setup n
      → count_by (is_name n) (waiting_in start (up_to place v) n.to) ≤ 1
  -- a receive there hands out what waits for its node, and no other event hands out anything
  pub handed : (place i : ℕ) → IsReceiveAt (world_of start v) v.trace i place
      → handed_by start (up_to (place + 1) v) i
      ≡ handed_by start (up_to place v) i ++ waiting_in start (up_to place v) i ∷ []
  pub kept : (place i : ℕ) → ¬ IsReceiveAt (world_of start v) v.trace i place
      → handed_by start (up_to (place + 1) v) i ≡ handed_by start (up_to place v) i
  -- an event of the network there is answered yes exactly if it does something, and a step has no
  -- answer
  pub answered : (place : ℕ) (e : Event) → slice_get v.trace place ≡ Some e
      → ((i : ℕ) → e ≢ Step i) → (did : Bool)
      × (answers_in start (up_to (place + 1) v) ≡ answers_in start (up_to place v) ++ did ∷ [])
      × (IsTrue did ↔ DoesSomething start (up_to place v) e)
  pub unanswered : (place i : ℕ) → slice_get v.trace place ≡ Some (Step i)
      → answers_in start (up_to (place + 1) v) ≡ answers_in start (up_to place v)
  -- nothing is handed out or answered before the first place, and behind the last one is the run
  pub nothing_handed : (i : ℕ) → handed_by start (up_to 0 v) i ≡ []
  pub nothing_answered : answers_in start (up_to 0 v) ≡ []
  pub whole : up_to (length v.trace) v ≡ v
