use Rattle.std.proofs.Common.{◌≡◌, ◌+◌, drop}
use Rattle.frame_format.specs.Formats.{size}
use Rattle.frame_format.proofs.block.size_of.Given as goal

abbrev pub invariant-loop-kind : goal.invariant-loop-kind
invariant-loop-kind l = l.total + size (drop l.kind-index l.kinds) ≡ size l.kinds
