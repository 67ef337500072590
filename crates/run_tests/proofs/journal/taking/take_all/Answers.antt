use Rattle.step_book.proofs.Taking.{for_now, next_for, taking_next}
use Rattle.run_tests.proofs.journal.taking.take_all.Goals as goal

pub take-taken-requires-clause-from : goal.take-taken-requires-clause-from
take-taken-requires-clause-from c =
    let held = c.loop-frame.invariant in
    (for_now _ _ _ held.same (next_for _ _ _ _ _ _ c.in-Some.ensures held.frames).0).from

pub take-taken-requires-clause-to : goal.take-taken-requires-clause-to
take-taken-requires-clause-to c =
    let held = c.loop-frame.invariant in
    (for_now _ _ _ held.same (next_for _ _ _ _ _ _ c.in-Some.ensures held.frames).0).to

pub take-taken-requires-clause-honest : goal.take-taken-requires-clause-honest
take-taken-requires-clause-honest c =
    let held = c.loop-frame.invariant in
    (for_now _ _ _ held.same (next_for _ _ _ _ _ _ c.in-Some.ensures held.frames).0).honest

pub loop-frame-preserved : goal.loop-frame-preserved
loop-frame-preserved c =
    taking_next _ _ _ _ _ _ _ c.take-taken.result c.loop-frame.invariant c.in-Some.ensures
    c.take-taken.ensures.kept c.take-taken.ensures.dropped
