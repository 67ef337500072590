use Rattle.std.proofs.Common.{◌≤◌, length}
use Rattle.locked_buffers.proofs.NetworkEvents.{IsRest}
use Rattle.locked_buffers.proofs.account.are_events.Given as goal

abbrev pub invariant-loop-stored : goal.invariant-loop-stored
invariant-loop-stored l = record {
  told : l.told ≤ length l.events;
  rest : IsRest l.trace l.events l.stored-index l.told;
}
