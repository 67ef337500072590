use Rattle.std.proofs.Common.{refl}
use Rattle.omission_texts.proofs.Adding.{adds_none, to_all, to_first, to_more}
use Rattle.omission_texts.proofs.blocks.add_round.Goals as goal

pub loop-receiver-init : goal.loop-receiver-init
loop-receiver-init c =
    adds_none (to_first c.args.receivers.now c.args.round c.args.sender 0) c.args.table.now
    (λ i r j. refl)

pub loop-receiver-preserved : goal.loop-receiver-preserved
loop-receiver-preserved c =
    to_more c.args.receivers.now c.args.round c.args.sender c.loop-receiver.receiver-index 0
    c.args.table.now c.loop-receiver.table c.insert.new.self c.loop-receiver-test.true
    c.loop-receiver.invariant c.in_ok-insert.ensures.ok

pub returns : goal.returns
returns c =
    to_all c.args.receivers.now c.args.round c.args.sender c.loop-receiver.receiver-index
    c.args.table.now c.loop-receiver.table c.loop-receiver-test.false c.loop-receiver.invariant
