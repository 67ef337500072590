-- The text of a report, line by line.
use Rattle.std.specs.Prelude.{ℕ, ◌+◌, ◌++◌, ◌==◌, Bool, not, List, [], ◌∷◌, Option, Some, None}
use Rattle.std.specs.Prelude.{codes, map, filter, length, if◌then◌else◌, slice_index}
use Rattle.std.specs.Prelude.{slice_index_or}
use Rattle.std.specs.Fmt.{decimal}
use Rattle.std.specs.List.{flat_map, join_with_byte, range_with_len}
use Rattle.round_lang.specs.Sets.{members}
use Rattle.round_lang.specs.Values.{at, num, flag, set, row}
use Rattle.round_lang.specs.declared.expr.Ty.{Ty}
use Rattle.round_lang.specs.declared.expr.Ty.TheVariants as ty
use Rattle.round_lang.specs.declared.value.Value.{Value}
use Rattle.omission_explainer.specs.Rows.{ClosedRound}
use Rattle.omission_explainer.specs.declared.report.Report.{Report}

-- texts with a comma between each two
abbrev pub with_commas : List (List ℕ) → List ℕ
with_commas texts = join_with_byte 44 texts

-- `0,1`
abbrev pub numbers_text : List ℕ → List ℕ
numbers_text ns = with_commas (map decimal ns)

-- `-` for none
abbrev pub list_text : List ℕ → List ℕ
list_text [] = codes "-"
list_text (n ∷ ns) = numbers_text (n ∷ ns)

-- a set of nodes: its members in rising order, or `-`
abbrev pub nodes_text : ℕ → List ℕ
nodes_text s = list_text (members s)

-- a set of values: `{0,1}` or `{}`
abbrev pub set_text : ℕ → List ℕ
set_text s = codes "{" ++ numbers_text (members s) ++ codes "}"

-- a row's entry isn't 0
abbrev pub is_entered : List ℕ → ℕ → Bool
is_entered entries v = not (slice_index entries v == 0)

-- the values below k where a row's entry isn't 0
abbrev pub entered : ℕ → List ℕ → List ℕ
entered k entries = filter (is_entered entries) (range_with_len 0 k)

-- `1:2`
abbrev pub entry_text : List ℕ → ℕ → List ℕ
entry_text entries v = decimal v ++ codes ":" ++ decimal (slice_index entries v)

-- a row: its entries other than 0, as `[1:2,3:1]` or `[]`
abbrev pub entries_text : ℕ → List ℕ → List ℕ
entries_text k entries =
    codes "[" ++ with_commas (map (entry_text entries) (entered k entries)) ++ codes "]"

-- a value in the form of its type
abbrev pub value_text : ℕ → Ty → Value → List ℕ
value_text k ty.Num v = decimal (num v)
value_text k ty.Bool v = if flag v then codes "true" else codes "false"
value_text k ty.Set v = set_text (set v)
value_text k ty.Row v = entries_text k (row v)

-- the type at a place, num if there is none
abbrev pub type_at : List Ty → ℕ → Ty
type_at types i = slice_index_or types i ty.Num

-- ` NAME=VALUE`, of the variable at a place with this value
abbrev pub named_text : Report → ℕ → Value → List ℕ
named_text report i v =
    codes " " ++ slice_index_or report.names i [] ++ codes "="
    ++ value_text report.values (type_at report.types i) v

-- ` NAME=VALUE`, of the variable at a place in a state
abbrev pub variable_text : Report → List Value → ℕ → List ℕ
variable_text report state i = named_text report i (at state i)

-- the variables in the order of their declarations
abbrev pub state_text : Report → List Value → List ℕ
state_text report state =
    codes " state" ++ flat_map (variable_text report state) (range_with_len 0 (length report.names))

abbrev pub decision_text : Option ℕ → List ℕ
decision_text None = codes "-"
decision_text (Some v) = decimal v

-- the line of a closed round of a node
abbrev pub row_text : Report → ClosedRound → List ℕ
row_text report r =
    (codes "round " ++ decimal r.round ++ codes " node " ++ decimal r.node)
    ++ (codes " heard " ++ nodes_text r.heard)
    ++ (codes " silent " ++ nodes_text r.silent)
    ++ (codes " omitted " ++ nodes_text r.omitted)
    ++ state_text report r.state
    ++ (codes " decision " ++ decision_text r.decision ++ codes "\n")

-- the line of a node's steps and closed rounds
abbrev pub count_text : ℕ → ℕ × ℕ → List ℕ
count_text node count =
    codes "node " ++ decimal node ++ codes " steps " ++ decimal count.0 ++ codes " rounds "
    ++ decimal count.1 ++ codes "\n"

-- the lines of the nodes from one on
abbrev pub counts_text : ℕ → List (ℕ × ℕ) → List ℕ
counts_text node [] = []
counts_text node (count ∷ counts) = count_text node count ++ counts_text (node + 1) counts

-- the whole text
abbrev pub report_text : Report → List ℕ
report_text report = flat_map (row_text report) report.rows ++ counts_text 0 report.counts
