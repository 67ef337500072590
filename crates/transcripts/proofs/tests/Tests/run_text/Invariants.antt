use Rattle.std.proofs.Common.{◌≡◌}
use Rattle.transcripts.proofs.tests.Tests.run_text.Given as goal

-- nothing was written to the desk
abbrev pub invariant-loop-entry : goal.invariant-loop-entry
invariant-loop-entry g l = g.D.Desk.written l.desk ≡ g.D.Desk.written l.initial.desk
