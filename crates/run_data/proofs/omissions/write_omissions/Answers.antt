use Rattle.run_data.specs.Omitted.{omit_lines}
use Rattle.run_data.proofs.Written.{items_more}
use Rattle.run_data.proofs.omissions.write_omissions.Goals as goal

pub loop-row-preserved : goal.loop-row-preserved
loop-row-preserved g c =
    let out = g.W.Write.contents in
    items_more (out c.args.out.now) (out c.loop-row.out) (out c.write_row.new.out)
    omit_lines c.as_slice-row-items.result.now c.loop-row.row-index
    c.row-item.result c.loop-row-test.true c.row-item.is c.loop-row.invariant
    c.in_ok-write_row.ensures
