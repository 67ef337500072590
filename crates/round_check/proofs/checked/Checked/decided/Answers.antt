use Rattle.std.proofs.Common.{◌<◌, length, arith}
use Rattle.std.specs.Arc.{arc_value}
use Rattle.round_check.proofs.Facts.{some-decides}
use Rattle.round_check.proofs.checked.Checked.decided.Goals as goal

pub unreachable-requires : goal.unreachable-requires
unreachable-requires c =
    let some : 0 < length c.decides.result.now =
    rw (c.decides.ensures, c.deref.ensures)
    (some-decides (arc_value c.self.inside.shaped).program c.self.invariant) in
    omega arith
