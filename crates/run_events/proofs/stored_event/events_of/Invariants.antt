use Rattle.std.proofs.Common.{◌≡◌, take}
use Rattle.run_events.proofs.stored_event.events_of.Given as goal

abbrev pub invariant-loop-event : goal.invariant-loop-event
invariant-loop-event l = l.events.items ≡ take l.event-index l.stored
