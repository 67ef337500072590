use Rattle.policies.proofs.Least.{IsFound}
use Rattle.policies.proofs.bounded.least_due.Given as goal

abbrev pub invariant-loop-place : goal.invariant-loop-place
invariant-loop-place l = IsFound l.policy l.now l.flight l.place l.least
