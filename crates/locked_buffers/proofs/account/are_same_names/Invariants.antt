use Rattle.std.proofs.Common.{◌≡◌, take}
use Rattle.locked_buffers.proofs.account.are_same_names.Given as goal

abbrev pub invariant-loop-place : goal.invariant-loop-place
invariant-loop-place l = take l.place l.left ≡ take l.place l.right
