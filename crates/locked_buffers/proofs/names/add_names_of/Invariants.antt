use Rattle.std.proofs.Common.{◌-◌, length}
use Rattle.locked_buffers.proofs.Noted.{AreNoted}
use Rattle.locked_buffers.proofs.names.add_names_of.Given as goal

abbrev pub invariant-loop-frame : goal.invariant-loop-frame
invariant-loop-frame g l = AreNoted l.run.setup l.frames.items l.fn.mail l.mail

abbrev pub decreases-loop-frame : goal.decreases-loop-frame
decreases-loop-frame g l = length l.frames.items - length l.mail.waiting
