use Rattle.std.proofs.Common.{get_or}
use Rattle.omission_explainer.specs.Report.{count_text}
use Rattle.omission_explainer.specs.Short.{Tells}
use Rattle.omission_explainer.proofs.Texts.{counts_more, tells_pushed}
use Rattle.omission_explainer.proofs.writing.write_counts.Goals as goal

pub loop-node-preserved : goal.loop-node-preserved
loop-node-preserved g c =
    let out = g.W.Write.contents in
    let counts = c.args.counts.now in
    let i = c.loop-node.node in
    let line : Tells (out c.loop-node.out) c.loop-node.text
    (out c.make_room.new.out) c.push_count.new.text (count_text i (get_or counts i (0, 0))) =
    tells_pushed (out c.loop-node.out) (out c.make_room.new.out) c.loop-node.text
    c.make_room.new.text c.push_count.new.text (count_text i (get_or counts i (0, 0)))
    c.in_ok-make_room.ensures.same c.push_count.ensures in
    counts_more (out c.args.out.now) (out c.loop-node.out)
    (out c.make_room.new.out) c.args.text.now c.loop-node.text c.push_count.new.text counts i
    (0, 0) c.loop-node-test.true c.loop-node.invariant line
