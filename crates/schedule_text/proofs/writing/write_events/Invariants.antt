use Rattle.std.proofs.Common.{take}
use Rattle.std.specs.String.{string_bytes}
use Rattle.schedule_text.proofs.Kept.{Keeps}
use Rattle.schedule_text.proofs.writing.write_events.Given as goal

abbrev pub invariant-loop-event : goal.invariant-loop-event
invariant-loop-event l = Keeps (string_bytes l.initial.text) (string_bytes l.text) l.lines
    (take l.event-index l.events)
