use Rattle.step_book.specs.Log.{history, world_of}
use Rattle.omission_explainer.proofs.Moments.{moment_at}
use Rattle.omission_explainer.proofs.Passes.{Passed}
use Rattle.omission_explainer.proofs.judging.judge.Given as goal

abbrev pub invariant-loop-event : goal.invariant-loop-event
invariant-loop-event g l =
    Passed (world_of (g.P.Plan.start l.book.plan) l.book.log)
    (history l.book.log) l.correct.bits l.delta l.gst
    (moment_at l.event-index l.event-items) l.counts l.lockstep l.bound
