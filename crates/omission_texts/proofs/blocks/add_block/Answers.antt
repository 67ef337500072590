use Rattle.omission_texts.proofs.Adding.{adds_nobody, from_all, from_more}
use Rattle.omission_texts.proofs.blocks.add_block.Goals as goal

pub loop-sender-init : goal.loop-sender-init
loop-sender-init c = adds_nobody c.args.receivers.now c.args.rounds c.args.senders.now
    c.args.table.now

pub loop-sender-preserved : goal.loop-sender-preserved
loop-sender-preserved c =
    from_more c.args.receivers.now c.args.rounds c.args.senders.now c.loop-sender.sender-index 0
    c.args.table.now c.loop-sender.table c.add_sender.new.table c.loop-sender-test.true
    c.loop-sender.invariant c.in_ok-add_sender.ensures

pub returns : goal.returns
returns c =
    from_all c.args.receivers.now c.args.rounds c.args.senders.now c.loop-sender.sender-index
    c.args.table.now c.loop-sender.table c.loop-sender-test.false c.loop-sender.invariant
