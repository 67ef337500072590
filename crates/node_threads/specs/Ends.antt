-- How the threads of a run ended.
use Rattle.std.specs.Prelude.{◌≡◌, ℕ, ◌+◌, ◌<◌, ◌≤◌, Bool, List, [], Option, Some, length}
use Rattle.std.specs.Prelude.{slice_index_or}
use Rattle.round_meaning.specs.Agreement.{IsInput}
use Rattle.round_meaning.specs.Setups.{IsLawful}
use Rattle.round_meaning.specs.Turn.{decision}
use Rattle.round_meaning.specs.declared.setup.Setup.{Setup}
use Rattle.schedule_text.specs.declared.pace.Stop.{Stop}
use Rattle.step_book.specs.Agreement.{row}
use Rattle.step_book.specs.History.{omits_of}
use Rattle.step_book.specs.Log.{IsDue, Log, count_of, history, round_of, world_of}
use Rattle.node_threads.specs.declared.ended.Ended.{Ended}
use Rattle.node_threads.specs.declared.ended.Ended.TheVariants.{Done, NoMemory, Stopped}
use Rattle.node_threads.specs.Stops.{AreStops, stop_of}

-- what the record says of node i by how its thread ended. Done: all its rounds are closed, and it
-- has taken all their steps. Stopped: it has taken this number of steps, fewer than all, and each
-- round of it that is due is closed. Out of memory: neither, since a round of it isn't closed, and
-- if it has taken as many steps as its stop says, that round is due. So just one of these is true.
pub record HasEnded (start : ℕ → ℕ) (v : Log) (i : ℕ) (stop : Option ℕ) (e : Ended) : Type 0 where
  pub done : e ≡ Done
      → (round_of v i ≡ v.setup.rounds + 1) × (count_of v i ≡ start (v.setup.rounds + 1))
  pub stopped : e ≡ Stopped → (stop ≡ Some (count_of v i))
      × (count_of v i < start (v.setup.rounds + 1)) × (¬ IsDue start v i)
  pub cut : e ≡ NoMemory
      → (round_of v i ≤ v.setup.rounds) × (stop ≡ Some (count_of v i) → IsDue start v i)

-- there is an end for each node of the run, in the order of the nodes, and each is the record's
pub record HaveEnded (start : ℕ → ℕ) (v : Log) (stops : List Stop) (ends : List Ended)
    : Type 0 where
  pub sized : length ends ≡ v.setup.nodes
  pub each : (i : ℕ) (e : Ended) → i < v.setup.nodes
      → HasEnded start v i (stop_of stops i) (slice_index_or ends i e)

-- if a thread that is done has a stop, it's behind this many steps
abbrev pub AreBehind : (steps : ℕ) → List Stop → List Ended → Type 0
AreBehind steps stops ends =
    (i n : ℕ) (e : Ended) → i < length ends → slice_index_or ends i e ≡ Done
    → stop_of stops i ≡ Some n → steps ≤ n

-- the setup is lawful, and the stops are of nodes of it
pub record IsFitForThreads (values : ℕ) (s : Setup) (stops : List Stop) : Type 0 where
  pub lawful : IsLawful values s
  pub nodes : AreStops s.nodes stops

-- node i has decided x by its closed round r, 0 for its initial state
pub record HasDecidedBy (v : Log) (i r x : ℕ) : Type 0 where
  pub node : i < v.setup.nodes
  pub closed : r < round_of v i
  pub decides : decision v.program (slice_index_or (row v.rows i) r []) ≡ Some x

-- what the run in rounds of this record omits
abbrev pub omitted_by : (start : ℕ → ℕ) → Log → ℕ → ℕ → ℕ → Bool
omitted_by start v = omits_of (world_of start v) (history v)

-- all decisions that were made by closed rounds are equal
abbrev pub HasAgreed : Log → Type 0
HasAgreed v = (i j r q x y : ℕ) → HasDecidedBy v i r x → HasDecidedBy v j q y → x ≡ y

-- and each of them is some node's input
abbrev pub HasDecidedInputs : Log → Type 0
HasDecidedInputs v = (i r x : ℕ) → HasDecidedBy v i r x → IsInput v.setup x
