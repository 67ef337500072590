use Rattle.std.proofs.Common.{◌≡◌}
use Rattle.transcripts.proofs.running.Runner.fetch.Given as goal

-- nothing was written to the desk
abbrev pub invariant-loop-name : goal.invariant-loop-name
invariant-loop-name g l = g.D.Desk.written l.desk ≡ g.D.Desk.written l.initial.desk
