use Rattle.std.proofs.Common.{◌≡◌, ◌++◌, take}
use Rattle.std.specs.List.{flat_map, All}
use Rattle.round_lang.specs.Words.{IsSmall}
use Rattle.frame_format.specs.Spelling.{field}
use Rattle.frame_format.proofs.encoding.push_fields.Given as goal

abbrev pub invariant-loop-place : goal.invariant-loop-place
invariant-loop-place l = record {
  bytes : l.out.items ≡ l.initial.out.items ++ flat_map field (take l.place l.message);
  small : All IsSmall (take l.place l.message);
}
