use Rattle.run_data.proofs.Written.{counts_more}
use Rattle.run_data.proofs.writing.write_counts.Goals as goal

pub loop-node-preserved : goal.loop-node-preserved
loop-node-preserved g c =
    let out = g.W.Write.contents in
    counts_more (out c.args.out.now) (out c.loop-node.out) (out c.write_count.new.out)
    c.args.counts.now c.loop-node.node (0, 0) c.loop-node-test.true c.loop-node.invariant
    c.in_ok-write_count.ensures
