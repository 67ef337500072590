use Rattle.std.proofs.Common.{ap}
use Rattle.omission_explainer.specs.Rows.{ClosedRound}
use Rattle.omission_explainer.proofs.Summaries.{never_split, next_summary, whole_summary}
use Rattle.omission_explainer.proofs.deciding.decided.Goals as goal

pub loop-row-preserved : goal.loop-row-preserved
loop-row-preserved c =
    next_summary c.args.report.now.rows c.as_slice-row-items.result.now c.loop-row.row-index
    c.row-item.result c.loop-row.all c.with-all.result c.row.inside.decision
    c.as_slice-row-items.ensures c.loop-row-test.true c.row-item.is
    (ap (λ (r : ClosedRound). r.decision) c.row.view_is) c.with-all.ensures c.loop-row.invariant

pub returns-clause-value : goal.returns-clause-value
returns-clause-value c =
    (whole_summary c.args.report.now.rows c.as_slice-row-items.result.now c.loop-row.row-index
    c.loop-row.all c.as_slice-row-items.ensures c.loop-row-test.false c.loop-row.invariant).0

pub returns-clause-summary : goal.returns-clause-summary
returns-clause-summary c =
    (whole_summary c.args.report.now.rows c.as_slice-row-items.result.now c.loop-row.row-index
    c.loop-row.all c.as_slice-row-items.ensures c.loop-row-test.false c.loop-row.invariant).1

pub returns-clause-never_split : goal.returns-clause-never_split
returns-clause-never_split c = never_split c.args.report.now.rows c.loop-row.all
    (returns-clause-summary c)
