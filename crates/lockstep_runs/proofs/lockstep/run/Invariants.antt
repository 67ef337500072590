use Rattle.lockstep_runs.specs.Changes.{timing_by}
use Rattle.lockstep_runs.proofs.Ticks.{IsTicked}
use Rattle.lockstep_runs.proofs.lockstep.run.Given as goal

abbrev pub invariant-loop-now : goal.invariant-loop-now
invariant-loop-now g l = IsTicked g.P.Plan.start l.fn.program l.fn.setup l.fn.plan
    (timing_by l.fn.course.bounded.now l.fn.course.changes.now l.fn.course.correct.bits) l.now
    l.driver l.flight
