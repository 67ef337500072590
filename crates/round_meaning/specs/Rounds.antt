-- The run in rounds under an omission table (the paper's basic round model).
use Rattle.std.specs.Prelude.{ℕ, zero, suc, Bool, List, Option, Some, None, if◌then◌else◌}
use Rattle.std.specs.Prelude.{slice_index}
use Rattle.std.specs.List.{range_with_len, filter_map}
use Rattle.round_lang.specs.declared.value.Value.{Value}
use Rattle.round_lang.specs.Syntax.{ProgramTree}
use Rattle.round_meaning.specs.declared.received.Received.{Received}
use Rattle.round_meaning.specs.declared.setup.Setup.{Setup}
use Rattle.round_meaning.specs.Turn.{block_at, ended, initial, node_env, sent, with_dest, with_vars}

-- an algorithm in rounds: how a node begins, what it sends, and what it ends a round with
pub record Algorithm : Type 0 where
  pub nodes : ℕ
  -- of a node
  pub init : ℕ → List Value
  -- in a round, in a state, from a node to a node
  pub send : ℕ → List Value → ℕ → ℕ → Option (List Value)
  -- of a round, of a node, with an inbox, from a state
  pub end : ℕ → ℕ → List Received → List Value → List Value

abbrev pub received : ℕ → Option (List Value) → Option Received
received j None = None
received j (Some m) = Some (record { from = j; message = m })

-- what i gets from j in round r, where j isn't omitted and does send
abbrev pub heard : Algorithm → (ℕ → Bool) → (ℕ → List Value) → ℕ → ℕ → ℕ → Option Received
heard a omitted states r i j = if omitted j then None else received j (a.send r (states j) j i)

-- what i gets in round r, in rising order of sender
unfoldable pub inbox : Algorithm → (ℕ → Bool) → (ℕ → List Value) → ℕ → ℕ → List Received
inbox a omitted states r i = filter_map (heard a omitted states r i) (range_with_len 0 a.nodes)

-- the state of each node after r rounds; `omits i r j`: i doesn't get j's message of round r
unfoldable pub rounds : Algorithm → (ℕ → ℕ → ℕ → Bool) → ℕ → ℕ → List Value
rounds a omits zero i = a.init i
rounds a omits (suc r) i =
    a.end (suc r) i (inbox a (omits i (suc r)) (rounds a omits r) (suc r) i) (rounds a omits r i)

-- what node j in a state sends to i in round r
abbrev pub send : ProgramTree → ℕ → ℕ → ℕ → List Value → ℕ → ℕ → Option (List Value)
send p n t r vs j i = sent (block_at p r) (with_dest i (with_vars vs (node_env p n t r j)))

-- the state of node i after round r, from the state before it and the inbox
abbrev pub end : ProgramTree → ℕ → ℕ → ℕ → ℕ → List Received → List Value → List Value
end p n t r i inbox vs = ended (block_at p r) (node_env p n t r i) inbox vs

-- the algorithm that a program is for n nodes, t faults and these inputs
unfoldable pub algorithm : ProgramTree → ℕ → ℕ → (ℕ → ℕ) → Algorithm
algorithm p n t inputs = record {
  nodes = n;
  init = λ i. initial p n t (inputs i) i;
  send = send p n t;
  end = end p n t;
}

-- the algorithm of a program under a setup
abbrev pub algorithm_of : ProgramTree → Setup → Algorithm
algorithm_of p s = algorithm p s.nodes s.faults (slice_index s.inputs)
