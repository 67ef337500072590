use Rattle.std.proofs.Common.{◌≡◌, ◌++◌, drop}
use Rattle.omission_schedules.proofs.rounds.lent.Given as goal

abbrev pub invariant-loop-received : goal.invariant-loop-received
invariant-loop-received l = l.heard.items ++ drop l.received-index l.inbox ≡ l.inbox
