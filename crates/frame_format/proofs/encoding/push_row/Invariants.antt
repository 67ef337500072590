use Rattle.std.proofs.Common.{◌≡◌, ◌<◌, ◌^◌, ◌++◌, take}
use Rattle.std.specs.List.{flat_map, All}
use Rattle.byteorder.specs.Endian.{big_bytes}
use Rattle.round_lang.specs.Values.{at, row}
use Rattle.frame_format.proofs.encoding.push_row.Given as goal

abbrev pub invariant-loop-entry : goal.invariant-loop-entry
invariant-loop-entry l = record {
  bytes : l.out.items ≡ l.initial.out.items
      ++ flat_map (big_bytes 4) (take l.entry (row (at l.message l.place)));
  small : All (λ e. e < 2 ^ 32) (take l.entry (row (at l.message l.place)));
}
