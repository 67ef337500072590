use Rattle.std.proofs.Common.{◌≡◌}
use Rattle.command_reasons.proofs.files.CommandFiles.read.Given as goal

abbrev pub invariant-loop-file : goal.invariant-loop-file
invariant-loop-file g l = g.D.Desk.written l.desk ≡ g.D.Desk.written l.initial.desk
