use Rattle.step_journal.proofs.BufferViews.{empty_push}
use Rattle.step_journal.proofs.journal.no_buffers.Goals as goal

pub loop-node-preserved : goal.loop-node-preserved
loop-node-preserved c =
    let made = c.in_ok-new.ensures in
    empty_push _ _ _ _ _ _ c.in_ok-push.ensures.items made.program made.setup made.flying
    made.waiting c.loop-node.invariant
