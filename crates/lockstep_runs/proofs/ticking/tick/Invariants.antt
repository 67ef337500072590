use Rattle.std.specs.BTreeMap as tree
use Rattle.lockstep_runs.specs.Changes.{timing_by}
use Rattle.lockstep_runs.proofs.Ticks.{IsReleasing, IsStepping}
use Rattle.lockstep_runs.proofs.ticking.tick.Given as goal

abbrev pub invariant-loop-name : goal.invariant-loop-name
invariant-loop-name g l =
    IsReleasing g.P.Plan.start
    (timing_by l.course.bounded.now l.course.changes.now l.course.correct.bits) l.now l.fn.driver
    l.driver l.flight

abbrev pub decreases-loop-name : goal.decreases-loop-name
decreases-loop-name g l = tree.btree_map_len l.flight

abbrev pub invariant-loop-turn : goal.invariant-loop-turn
invariant-loop-turn g l =
    IsStepping g.P.Plan.start
    (timing_by l.course.bounded.now l.course.changes.now l.course.correct.bits) l.now l.fn.driver
    l.driver l.flight l.turn
