-- What the rows of a record are to show.
use Rattle.std.specs.Prelude.{◌≡◌, ℕ, ◌+◌, ◌-◌, ◌<◌, Bool, List, filter, is_some, map, nat_lt}
use Rattle.std.specs.List.{flat_map, range_with_len}
use Rattle.round_check.specs.Types.{kind_type}
use Rattle.round_lang.specs.declared.expr.Ty.{Ty}
use Rattle.round_lang.specs.Syntax.{ProgramTree}
use Rattle.round_meaning.specs.Turn.{decision}
use Rattle.step_book.specs.Fates.{carried}
use Rattle.step_book.specs.History.{message, state}
use Rattle.step_book.specs.Log.{Log, count_of, history, round_of, world_of}
use Rattle.step_book.specs.Work.{sent_name}
use Rattle.omission_explainer.specs.Printed.{IsPrinted, heard_set, silent_set, omitted_set}
use Rattle.omission_explainer.specs.Rows.{ClosedRound}

-- a copy of the message of a round from node j to node i was carried
abbrev pub carried_in : (ℕ → ℕ) → Log → ℕ → ℕ → ℕ → Bool
carried_in start v r i j = carried (world_of start v) (history v) i r j

-- node j had a message for node i in a round
abbrev pub sends_in : (ℕ → ℕ) → Log → ℕ → ℕ → ℕ → Bool
sends_in start v r i j = is_some (message (world_of start v) (history v) (sent_name j i r))

-- node j's slot to node i in a round stands in the trace: it took more steps than come before that
-- one
abbrev pub stands_in : (ℕ → ℕ) → Log → ℕ → ℕ → ℕ → Bool
stands_in start v r i j = nat_lt (start r + i) (count_of v j)

-- the three sets of a round of node i
abbrev pub heard_in : (ℕ → ℕ) → Log → ℕ → ℕ → ℕ
heard_in start v r i = heard_set v.setup.nodes (carried_in start v r i) (sends_in start v r i)

abbrev pub silent_in : (ℕ → ℕ) → Log → ℕ → ℕ → ℕ
silent_in start v r i = silent_set v.setup.nodes (sends_in start v r i) (stands_in start v r i)

abbrev pub omitted_in : (ℕ → ℕ) → Log → ℕ → ℕ → ℕ
omitted_in start v r i = omitted_set v.setup.nodes (carried_in start v r i)
    (sends_in start v r i) (stands_in start v r i)

-- the row's three sets are those of the round of node i
abbrev pub IsRowOf : (ℕ → ℕ) → Log → ℕ → ℕ → ClosedRound → Type 0
IsRowOf start v r i row = IsPrinted v.setup.nodes (carried_in start v r i)
    (sends_in start v r i) (stands_in start v r i) row

-- the row is of a closed round of a node, with its sets, its state and its decision
pub record IsReported (start : ℕ → ℕ) (v : Log) (row : ClosedRound) : Type 0 where
  pub node : row.node < v.setup.nodes
  pub first : 0 < row.round
  pub closed : row.round < round_of v row.node
  pub printed : IsRowOf start v row.round row.node row
  pub stated : row.state ≡ state (world_of start v) (history v) row.round row.node
  pub decided : row.decision ≡ decision v.program row.state

-- a round of a node that is closed
abbrev pub is_closed : Log → ℕ × ℕ → Bool
is_closed v place = nat_lt place.0 (round_of v place.1)

-- the nodes below n whose round r is closed, each with that round
abbrev pub closed_below : Log → ℕ → ℕ → List (ℕ × ℕ)
closed_below v n r = filter (is_closed v) (map (λ i. (r, i)) (range_with_len 0 n))

-- the closed rounds of all nodes, by round and then by node
abbrev pub closed_rounds : Log → List (ℕ × ℕ)
closed_rounds v = flat_map (closed_below v v.setup.nodes) (range_with_len 1 v.setup.rounds)

-- the round and the node of a row
abbrev pub place : ClosedRound → ℕ × ℕ
place row = (row.round, row.node)

-- how many steps a node has taken, and how many of its rounds are closed
abbrev pub count_in : Log → ℕ → ℕ × ℕ
count_in v i = (count_of v i, round_of v i - 1)

-- of each node, how many steps it took, and how many of its rounds are closed
abbrev pub counts_in : Log → List (ℕ × ℕ)
counts_in v = map (count_in v) (range_with_len 0 v.setup.nodes)

-- the variables' names in the order of their declarations, the input among them
abbrev pub declared_names : ProgramTree → List (List ℕ)
declared_names p = map (λ d. d.name) p.variables

-- the variables' types in that order
abbrev pub declared_types : ProgramTree → List Ty
declared_types p = map (λ d. kind_type d.kind) p.variables
