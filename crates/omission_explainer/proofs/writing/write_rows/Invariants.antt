use Rattle.std.proofs.Common.{take}
use Rattle.std.specs.List.{flat_map}
use Rattle.omission_explainer.specs.Report.{row_text}
use Rattle.omission_explainer.specs.Short.{Tells}
use Rattle.omission_explainer.proofs.writing.write_rows.Given as goal

abbrev pub invariant-loop-row : goal.invariant-loop-row
invariant-loop-row g l =
    Tells (g.W.Write.contents l.initial.out) l.initial.text (g.W.Write.contents l.out) l.text
    (flat_map (row_text l.report) (take l.row-index l.row-items))
