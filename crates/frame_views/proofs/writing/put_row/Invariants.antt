use Rattle.std.proofs.Common.{◌≡◌, ◌*◌, ◌<◌, ◌^◌, length, take}
use Rattle.std.specs.List.{flat_map, All}
use Rattle.byteorder.specs.Endian.{big_bytes}
use Rattle.round_lang.specs.Values.{at, row}
use Rattle.frame_views.proofs.writing.put_row.Given as goal

abbrev pub invariant-loop-entry : goal.invariant-loop-entry
invariant-loop-entry l = record {
  same : l.slot.bytes.ghost_name ≡ l.initial.slot.bytes.ghost_name;
  room : length l.slot.bytes.now ≡ 4 * l.entries;
  front : take (4 * l.entry) l.slot.bytes.now ≡ flat_map (big_bytes 4)
      (take l.entry (row (at l.message l.place)));
  small : All (λ e. e < 2 ^ 32) (take l.entry (row (at l.message l.place)));
}
