-- A report as data: an object for each of its rows and then one for each node, a line each.
use Rattle.std.specs.Prelude.{ℕ, ◌+◌, List, [], ◌∷◌, ◌++◌, Option, Some, None, codes, length, map}
use Rattle.std.specs.Prelude.{slice_index, slice_index_or}
use Rattle.std.specs.Fmt.{decimal}
use Rattle.std.specs.List.{flat_map, range_with_len}
use Rattle.round_lang.specs.Sets.{members}
use Rattle.round_lang.specs.Values.{at, num, flag, set, row}
use Rattle.round_lang.specs.declared.expr.Ty.{Ty}
use Rattle.round_lang.specs.declared.expr.Ty.TheVariants as ty
use Rattle.round_lang.specs.declared.value.Value.{Value}
use Rattle.omission_explainer.specs.Report.{entered, type_at}
use Rattle.omission_explainer.specs.Rows.{ClosedRound}
use Rattle.omission_explainer.specs.declared.report.Report.{Report}
use Rattle.serde_json.specs.Data.{Data, boolean, null}
use Rattle.run_data.specs.Objects.{data_line, number_data, numbers_data, object_of}

-- a set of nodes or of values: its members in rising order, as `[0,1]`
abbrev pub set_data : ℕ → Data
set_data s = numbers_data (members s)

-- `"1":2`
abbrev pub entry_field : List ℕ → ℕ → List ℕ × Data
entry_field entries v = (decimal v, number_data (slice_index entries v))

-- a row over k values: its entries other than 0 by their values, as `{"1":2,"3":1}`
abbrev pub entries_data : ℕ → List ℕ → Data
entries_data k entries = object_of (map (entry_field entries) (entered k entries))

-- a value in the form of its type
abbrev pub value_data : ℕ → Ty → Value → Data
value_data k ty.Num v = number_data (num v)
value_data k ty.Bool v = boolean (flag v)
value_data k ty.Set v = set_data (set v)
value_data k ty.Row v = entries_data k (row v)

-- the variable at a place, with this value: `"NAME":VALUE`
abbrev pub named_field : Report → ℕ → Value → List ℕ × Data
named_field report i v =
    (slice_index_or report.names i [], value_data report.values (type_at report.types i) v)

-- the variable at a place in a state
abbrev pub variable_field : Report → List Value → ℕ → List ℕ × Data
variable_field report state i = named_field report i (at state i)

-- the variables in the order of their declarations
abbrev pub state_data : Report → List Value → Data
state_data report state =
    object_of (map (variable_field report state) (range_with_len 0 (length report.names)))

-- no decision is null
abbrev pub decision_data : Option ℕ → Data
decision_data None = null
decision_data (Some v) = number_data v

-- a closed round of a node
abbrev pub row_object : Report → ClosedRound → Data
row_object report r = object_of (
    (codes "round", number_data r.round) ∷ (codes "node", number_data r.node)
    ∷ (codes "heard", set_data r.heard) ∷ (codes "silent", set_data r.silent)
    ∷ (codes "omitted", set_data r.omitted) ∷ (codes "state", state_data report r.state)
    ∷ (codes "decision", decision_data r.decision) ∷ [])

abbrev pub row_line : Report → ClosedRound → List ℕ
row_line report r = data_line (row_object report r)

-- a node's steps and closed rounds
abbrev pub count_object : ℕ → ℕ × ℕ → Data
count_object node count = object_of (
    (codes "node", number_data node) ∷ (codes "steps", number_data count.0)
    ∷ (codes "rounds", number_data count.1) ∷ [])

-- the lines of the nodes from one on
abbrev pub count_lines : ℕ → List (ℕ × ℕ) → List ℕ
count_lines node [] = []
count_lines node (count ∷ counts) =
    data_line (count_object node count) ++ count_lines (node + 1) counts

-- the whole text
abbrev pub report_data : Report → List ℕ
report_data report = flat_map (row_line report) report.rows ++ count_lines 0 report.counts
