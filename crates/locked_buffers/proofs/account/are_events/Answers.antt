use Rattle.locked_buffers.proofs.NetworkEvents.{events_end}
use Rattle.locked_buffers.proofs.account.are_events.Goals as goal

pub returns : goal.returns
returns c =
    events_end c.args.trace.now c.args.events.now c.loop-stored.stored-index c.loop-stored.told
    c.loop-stored-test.false
    c.loop-stored.invariant.told c.loop-stored.invariant.rest
