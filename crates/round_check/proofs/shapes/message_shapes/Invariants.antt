use Rattle.std.proofs.Common.{◌≡◌, map, take}
use Rattle.round_check.specs.Shapes.{block_kinds}
use Rattle.round_check.proofs.shapes.message_shapes.Given as goal

abbrev pub invariant-loop-block : goal.invariant-loop-block
invariant-loop-block l =
    l.shapes.items ≡ map (block_kinds l.values) (take l.block-index l.block-items)
