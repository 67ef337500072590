use Rattle.exploration_texts.proofs.Writing.{all_written, none_written, one_written}
use Rattle.exploration_texts.specs.Lines.{told_data}
use Rattle.exploration_texts.proofs.told.write_data.Goals as goal

pub loop-one-init : goal.loop-one-init
loop-one-init g c = none_written (g.W.Write.contents c.args.out.now)

pub loop-one-preserved : goal.loop-one-preserved
loop-one-preserved g c =
    let out = g.W.Write.contents in
    one_written told_data (out c.args.out.now) (out c.loop-one.out) (out c.write_object.new.out)
    c.args.told.now c.loop-one.one-index c.one-item.result c.loop-one-test.true c.one-item.is
    c.loop-one.invariant c.in_ok-write_object.ensures

pub returns : goal.returns
returns g c =
    let out = g.W.Write.contents in
    all_written told_data (out c.args.out.now) (out c.loop-one.out) c.args.told.now
    c.loop-one.one-index c.loop-one-test.false c.loop-one.invariant
