-- The messages that a report omits, as the lines of an omission file.
use Rattle.std.specs.Prelude.{ℕ, List, ◌++◌, codes}
use Rattle.std.specs.Fmt.{decimal}
use Rattle.std.specs.List.{flat_map}
use Rattle.round_lang.specs.Sets.{members}
use Rattle.omission_explainer.specs.Rows.{ClosedRound}
use Rattle.omission_explainer.specs.declared.report.Report.{Report}

-- the row's node misses the message of node j in the row's round
abbrev pub omit_line : ClosedRound → ℕ → List ℕ
omit_line r j =
    codes "omit " ++ decimal r.node ++ codes " " ++ decimal r.round ++ codes " " ++ decimal j
    ++ codes "\n"

-- a line for each message that the row omits
abbrev pub omit_lines : ClosedRound → List ℕ
omit_lines r = flat_map (omit_line r) (members r.omitted)

-- the whole text
abbrev pub omissions_text : Report → List ℕ
omissions_text report = flat_map omit_lines report.rows
