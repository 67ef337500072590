use Rattle.std.proofs.Common.{◌≡◌}
use Rattle.transcripts.proofs.finding.candidates.Given as goal

-- nothing was written to the desk
abbrev pub invariant-loop : goal.invariant-loop
invariant-loop g l = g.D.Desk.written l.desk ≡ g.D.Desk.written l.initial.desk
