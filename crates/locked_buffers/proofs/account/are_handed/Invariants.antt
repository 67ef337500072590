use Rattle.std.proofs.Common.{◌≡◌, take}
use Rattle.locked_buffers.proofs.account.are_handed.Given as goal

abbrev pub invariant-loop-receive : goal.invariant-loop-receive
invariant-loop-receive l = take l.receive l.told.handed ≡ take l.receive l.mail.handed
