-- The states of all nodes, round by round.
use Rattle.std.specs.Prelude.{◌≡◌, ℕ, ◌+◌, ◌<◌, ◌≤◌, Bool, List, [], map, length, slice_index_or}
use Rattle.std.specs.List.{range_with_len}
use Rattle.round_lang.specs.declared.value.Value.{Value}
use Rattle.round_lang.specs.Syntax.{ProgramTree}
use Rattle.round_meaning.specs.Rounds.{Algorithm, inbox, rounds}

-- a program's states by round, from 0 on, and by node
pub record States : Type 0 where
  pub program : ProgramTree
  pub nodes : ℕ
  pub rounds : ℕ
  pub by_round : List (List (List Value))

-- a node's state among those of all nodes
abbrev pub state_in : List (List Value) → ℕ → List Value
state_in states i = slice_index_or states i []

-- the state of node i after r rounds
abbrev pub state_of : States → ℕ → ℕ → List Value
state_of t i r = state_in (slice_index_or t.by_round r []) i

-- the start and each of n rounds have a state for each node
pub record IsComplete (nodes n : ℕ) (rows : List (List (List Value))) : Type 0 where
  pub each_round : length rows ≡ n + 1
  pub each_node : (r : ℕ) → r ≤ n → length (slice_index_or rows r []) ≡ nodes

-- a node's state after round r, from the states of all nodes before it
abbrev pub next_state : Algorithm → (ℕ → ℕ → ℕ → Bool) → ℕ → (ℕ → List Value) → ℕ → List Value
next_state a omits r states i = a.end r i (inbox a (omits i r) states r i) (states i)

-- the states of all nodes before the first round
abbrev pub initial_states : Algorithm → List (List Value)
initial_states a = map a.init (range_with_len 0 a.nodes)

-- the states of all nodes after r rounds
abbrev pub states_after : Algorithm → (ℕ → ℕ → ℕ → Bool) → ℕ → List (List Value)
states_after a omits r = map (rounds a omits r) (range_with_len 0 a.nodes)

-- the table has the states of an algorithm's rounds under an omission test
abbrev pub HasRun : States → Algorithm → (ℕ → ℕ → ℕ → Bool) → Type 0
HasRun t a omits = (r i : ℕ) → r ≤ t.rounds → i < t.nodes → state_of t i r ≡ rounds a omits r i
