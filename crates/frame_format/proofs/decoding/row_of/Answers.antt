use Rattle.std.proofs.Common.{append_assoc, arith}
use Rattle.std.proofs.lemmas.Grind.{common_steps}
use Rattle.frame_format.proofs.Numbers.{numbers_more}
use Rattle.frame_format.proofs.decoding.row_of.Goals as goal

pub loop-i-preserved : goal.loop-i-preserved
loop-i-preserved c =
    let e = numbers_more c.args.entries c.loop-i.i c.args.bytes.now (omega arith) in
    grind (arith, common_steps, append_assoc)
