use Rattle.std.proofs.Common.{subst, sym}
use Rattle.std.proofs.lemmas.List.Elements.{recursion_from_All}
use Rattle.std.specs.String.{string_bytes}
use Rattle.schedule_text.specs.Texts.{Says}
use Rattle.schedule_text.specs.Small.{IsSmallEvent}
use Rattle.schedule_text.proofs.Written.{read_back, spelled_as}
use Rattle.schedule_text.proofs.writing.write_schedule.Goals as goal

pub returns-clause-read_back : goal.returns-clause-read_back
returns-clause-read_back c =
    let s = c.args.setup.now in
    let es = c.args.events.now in
    let small = c.in_ok-write_header.ensures.small in
    let spelled = spelled_as s c.args.plan es (string_bytes c.new-text.result)
    (string_bytes c.write_header.new.text) (string_bytes c.write_events.new.text)
    c.new-text.ensures.bytes c.in_ok-write_header.ensures.spelled
    c.in_ok-write_events.ensures.spelled in
    λ some le. subst (λ text. Says text s c.args.plan es) (sym spelled)
    (read_back s c.args.plan es some small.0 small.1
    (recursion_from_All IsSmallEvent es c.in_ok-write_events.ensures.small) (rw spelled at le))
