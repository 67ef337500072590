use Rattle.std.proofs.Common.{◌∙◌, ◌∷◌, [], ◌+◌, refl}
use Rattle.omission_texts.specs.Tables.{of_run}
use Rattle.omission_texts.proofs.Adding.{block_is, on_ok}
use Rattle.omission_texts.proofs.LineTables.{crash_some, inner, outer, rounds_from}
use Rattle.omission_texts.proofs.table.add_crash.Goals as goal

pub returns : goal.returns
returns c =
    let s = c.args.setup.now in
    let list = c.args.reached.now in
    let node = c.args.node in
    let round = c.args.round in
    let mid = c.add_block.new.table in
    let end = c.add_block-2.new.table in
    let first = block_is c.as_slice.result.now (node ∷ []) (outer s list) (node ∷ [])
    c.rounds_from.result (of_run s (rounds_from s round)) c.args.table.now mid
    (c.as_slice.ensures.value ∙ c.in_ok-missed.ensures) c.rounds_from.ensures refl
    c.in_ok-add_block.ensures in
    on_ok c.add_block-2.result (λ x.
    let second = block_is c.as_slice-2.result.now (node ∷ []) (inner s list) (node ∷ [])
    c.rounds_from-2.result (of_run s (rounds_from s (round + 1))) mid end
    (c.as_slice-2.ensures.value ∙ c.in_ok-reached.ensures) c.rounds_from-2.ensures refl x in
    crash_some s node round list c.args.table.now mid end c.if-setup-node.false first second)
    c.add_block-2.ensures
