use Rattle.std.proofs.Common.{◌∙◌}
use Rattle.omission_texts.specs.Tables.{of_run}
use Rattle.omission_texts.proofs.Adding.{block_is, on_ok}
use Rattle.omission_texts.proofs.LineTables.{cut_apart, inner, outer}
use Rattle.omission_texts.proofs.table.add_cut.Goals as goal

pub returns : goal.returns
returns c =
    let s = c.args.setup.now in
    let list = c.args.list.now in
    let rs = of_run s c.args.rounds in
    let rounds = c.of_run-rounds.result in
    let mid = c.add_block.new.table in
    let end = c.add_block-2.new.table in
    let first = block_is c.as_slice.result.now c.as_slice-2.result.now (inner s list) (outer s list)
    rounds rs c.args.table.now mid (c.as_slice.ensures.value ∙ c.in_ok-inner.ensures)
    c.of_run-rounds.ensures (c.as_slice-2.ensures.value ∙ c.in_ok-outer.ensures)
    c.in_ok-add_block.ensures in
    on_ok c.add_block-2.result (λ x.
    let second = block_is c.as_slice-3.result.now c.as_slice-4.result.now (outer s list)
    (inner s list) rounds rs mid end (c.as_slice-3.ensures.value ∙ c.in_ok-outer.ensures)
    c.of_run-rounds.ensures (c.as_slice-4.ensures.value ∙ c.in_ok-inner.ensures) x in
    cut_apart s list c.args.rounds c.args.table.now mid end first second) c.add_block-2.ensures
