use Rattle.std.proofs.Common.{◌≤◌}
use Rattle.omission_explainer.proofs.Outcomes.{Sorted, mark_to, within_in}
use Rattle.omission_explainer.proofs.explaining.outcomes_of.Given as goal

abbrev pub invariant-loop-from : goal.invariant-loop-from
invariant-loop-from g l =
    l.from ≤ 64 → Sorted (within_in (g.P.Plan.start l.book.plan) l.book.log l.node l.round)
    (mark_to (g.P.Plan.start l.book.plan) l.book.log l.node l.round) l.from l.heard.bits
    l.silent.bits l.omitted.bits
