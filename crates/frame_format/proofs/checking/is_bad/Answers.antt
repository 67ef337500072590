use Rattle.std.proofs.Common.{arith}
use Rattle.frame_format.proofs.Bits.{no_bit_above}
use Rattle.frame_format.proofs.checking.is_bad.Goals as goal

pub returns-then-values-lt64 : goal.returns-then-values-lt64
returns-then-values-lt64 c = grind (arith, no_bit_above)
