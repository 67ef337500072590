use Rattle.std.proofs.Common.{◌≡◌, ◌*◌, ◌-◌, ◌++◌, drop}
use Rattle.frame_format.specs.Reading.{numbers}
use Rattle.frame_format.proofs.decoding.row_of.Given as goal

abbrev pub invariant-loop-i : goal.invariant-loop-i
invariant-loop-i l = l.row.items ++ numbers (l.entries - l.i) (drop (4 * l.i) l.bytes)
    ≡ numbers l.entries l.bytes
