use Rattle.std.proofs.Common.{refl}
use Rattle.std.specs.String.{string_bytes}
use Rattle.schedule_text.proofs.Kept.{keeps_more}
use Rattle.schedule_text.proofs.writing.write_events.Goals as goal

pub loop-event-preserved : goal.loop-event-preserved
loop-event-preserved c =
    keeps_more (string_bytes c.args.text.now) (string_bytes c.loop-event.text) c.loop-event.lines
    (string_bytes c.make_room.new.text) c.make_room.new.lines c.push_event.new.lines
    c.args.events.now c.loop-event.event-index _ _ c.loop-event-test.true refl
    c.loop-event.invariant c.in_ok-make_room.ensures.same c.in_ok-make_room.ensures.utf8
    c.push_event.ensures.spelled c.push_event.ensures.small
