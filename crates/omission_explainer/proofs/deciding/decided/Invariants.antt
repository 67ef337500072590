use Rattle.std.proofs.Common.{◌≡◌, take}
use Rattle.omission_explainer.specs.Decided.{IsSummary, summary_of}
use Rattle.omission_explainer.proofs.deciding.decided.Given as goal

abbrev pub invariant-loop-row : goal.invariant-loop-row
invariant-loop-row l =
    (l.all ≡ summary_of (take l.row-index l.report.rows))
    × IsSummary (take l.row-index l.report.rows) l.all
