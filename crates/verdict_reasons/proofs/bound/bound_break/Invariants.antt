use Rattle.omission_explainer.proofs.Moments.{moment_at}
use Rattle.verdict_reasons.proofs.Best.{Sought}
use Rattle.verdict_reasons.proofs.bound.bound_break.Given as goal

abbrev pub invariant-loop-place : goal.invariant-loop-place
invariant-loop-place g l =
    Sought (g.P.Plan.start l.book.plan) l.book.log l.correct.bits l.delta l.gst
    (moment_at l.place l.event-items) l.counts l.found
