use Rattle.std.proofs.Common.{◌∙◌}
use Rattle.std.specs.String.{string_bytes}
use Rattle.schedule_text.proofs.Kept.{keeps_more}
use Rattle.schedule_text.proofs.writing.write_stored_events.Goals as goal

pub loop-stored-preserved : goal.loop-stored-preserved
loop-stored-preserved c =
    keeps_more (string_bytes c.args.text.now) (string_bytes c.loop-stored.text) c.loop-stored.lines
    (string_bytes c.make_room.new.text) c.make_room.new.lines c.push_event.new.lines
    c.args.events.now c.loop-stored.stored-index _ _ c.loop-stored-test.true (c.event.ensures
    ∙ c.stored-item.is) c.loop-stored.invariant c.in_ok-make_room.ensures.same
    c.in_ok-make_room.ensures.utf8 c.push_event.ensures.spelled c.push_event.ensures.small
