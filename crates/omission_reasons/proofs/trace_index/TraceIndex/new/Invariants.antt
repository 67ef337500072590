use Rattle.omission_explainer.proofs.Moments.{moment_at}
use Rattle.omission_reasons.proofs.Indexed.{IsIndexed}
use Rattle.omission_reasons.proofs.trace_index.TraceIndex.new.Given as goal

abbrev pub invariant-loop-place : goal.invariant-loop-place
invariant-loop-place g l = IsIndexed l.nodes (moment_at l.place l.event-items) l.index
