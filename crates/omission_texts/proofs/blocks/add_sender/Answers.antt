use Rattle.omission_texts.proofs.Adding.{rounds_all, rounds_more, rounds_none}
use Rattle.omission_texts.proofs.blocks.add_sender.Goals as goal

pub loop-round-init : goal.loop-round-init
loop-round-init c = rounds_none c.args.receivers.now c.args.rounds c.args.sender c.args.table.now

pub loop-round-preserved : goal.loop-round-preserved
loop-round-preserved c =
    rounds_more c.args.receivers.now c.args.rounds c.args.sender c.loop-round.round c.args.table.now
    c.loop-round.table c.add_round.new.table c.loop-round.auto.round c.loop-round-test.true
    c.loop-round.invariant c.in_ok-add_round.ensures

pub returns : goal.returns
returns c =
    rounds_all c.args.receivers.now c.args.rounds c.args.sender c.loop-round.round c.args.table.now
    c.loop-round.table c.loop-round.auto.round c.loop-round-test.false c.loop-round.invariant
