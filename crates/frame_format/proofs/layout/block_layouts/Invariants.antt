use Rattle.std.proofs.Common.{◌≡◌, ℕ, [], get_or, take}
use Rattle.round_check.specs.Shapes.{message_kinds}
use Rattle.frame_format.specs.Formats.{IsBlock}
use Rattle.frame_format.proofs.layout.block_layouts.Given as goal

abbrev pub invariant-loop-place : goal.invariant-loop-place
invariant-loop-place l = record {
  blocks : l.blocks.items ≡ take l.place (message_kinds l.program);
  lawful : (i : ℕ) → IsBlock (get_or l.blocks.items i []);
}
