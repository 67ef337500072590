use Rattle.std.proofs.Common.{take}
use Rattle.std.specs.String.{string_bytes}
use Rattle.schedule_text.proofs.Kept.{Keeps}
use Rattle.schedule_text.proofs.writing.write_stored_events.Given as goal

abbrev pub invariant-loop-stored : goal.invariant-loop-stored
invariant-loop-stored l = Keeps (string_bytes l.initial.text) (string_bytes l.text) l.lines
    (take l.stored-index l.events)
