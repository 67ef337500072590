use Rattle.std.proofs.Common.{◌↔◌, drop}
use Rattle.round_meaning.specs.Turn.{IsInbox, RiseFrom}
use Rattle.round_meaning.proofs.received.is_inbox.Given as goal

abbrev pub invariant-loop-heard : goal.invariant-loop-heard
invariant-loop-heard l = RiseFrom l.low (drop l.heard-index l.entries) ↔ IsInbox l.entries
