use Rattle.std.proofs.Common.{◌≡◌, ◌*◌, ◌%◌, ◌^◌}
use Rattle.std.proofs.lemmas.Nat.{one_shl, and_mask}
use Rattle.frame_views.proofs.parts.low_bits.Goals as goal

pub returns-then-values-lt64 : goal.returns-then-values-lt64
returns-then-values-lt64 c =
    let e : 1 * 2 ^ c.args.values % 2 ^ 64 ≡ 2 ^ c.args.values =
    one_shl c.args.values 64 c.if-values-lt64.true in
    rw e (and_mask c.args.bits c.args.values)
