use Rattle.omission_explainer.proofs.Moments.{moment_at}
use Rattle.verdict_reasons.proofs.Paced.{Paced}
use Rattle.verdict_reasons.proofs.pace.pace_break.Given as goal

abbrev pub invariant-loop-place : goal.invariant-loop-place
invariant-loop-place g l = Paced l.correct.bits (moment_at l.place l.event-items) l.counts
