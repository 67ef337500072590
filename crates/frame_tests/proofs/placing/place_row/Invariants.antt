use Rattle.std.proofs.Common.{◌≡◌, ◌*◌, length}
use Rattle.frame_tests.proofs.placing.place_row.Given as goal

abbrev pub invariant-loop-entry : goal.invariant-loop-entry
invariant-loop-entry l = length l.slot.bytes.now ≡ 4 * l.entries
