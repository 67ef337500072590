use Rattle.std.proofs.Common.{◌≡◌, ◌+◌, ◌++◌, drop}
use Rattle.frame_format.specs.Formats.{size}
use Rattle.frame_format.specs.Reading.{fields_at}
use Rattle.frame_format.proofs.decoding.values_of.Given as goal

abbrev pub invariant-loop-kind : goal.invariant-loop-kind
invariant-loop-kind l = record {
  same : l.values ++ fields_at (drop l.kind-index l.kinds) (drop l.at l.bytes)
      ≡ fields_at l.kinds l.bytes;
  room : l.at + size (drop l.kind-index l.kinds) ≡ size l.kinds;
}
