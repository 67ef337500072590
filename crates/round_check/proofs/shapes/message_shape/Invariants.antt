use Rattle.std.proofs.Common.{◌≡◌, map, take}
use Rattle.round_lang.specs.declared.block.Field.{Field}
use Rattle.round_lang.specs.Words.{kind_for}
use Rattle.round_check.proofs.shapes.message_shape.Given as goal

abbrev pub invariant-loop-field : goal.invariant-loop-field
invariant-loop-field l =
    l.kinds.items ≡ map (λ (f : Field). kind_for l.values f.ty) (take l.field-index l.field-items)
