use Rattle.std.proofs.Common.{◌≡◌, ◌+◌, drop}
use Rattle.frame_format.specs.Formats.{size}
use Rattle.frame_format.specs.Faults.{bad_field}
use Rattle.frame_format.proofs.checking.bad_field.Given as goal

abbrev pub invariant-loop-i : goal.invariant-loop-i
invariant-loop-i l = record {
  same : bad_field l.values (drop l.i l.kinds) (drop l.at l.bytes) l.i
      ≡ bad_field l.values l.kinds l.bytes 0;
  room : l.at + size (drop l.i l.kinds) ≡ size l.kinds;
}
