use Rattle.std.proofs.Common.{◌≡◌, Some, ap, sym, ◌∙◌}
use Rattle.round_meaning.specs.declared.setup.Setup.{Setup}
use Rattle.schedule_text.specs.Intakes.{header_in}
use Rattle.schedule_text.specs.Readers.{Reading}
use Rattle.schedule_text.proofs.Readers.{all_opened}
use Rattle.schedule_text.proofs.schedule_reader.ScheduleReader.open.Goals as goal
use Rattle.run_events.specs.declared.plan_kind.PlanKind.{PlanKind}

pub returns-in-Some-clause-opened : goal.returns-in-Some-clause-opened
returns-in-Some-clause-opened g c =
    let h : Setup × PlanKind = (c.in-Some.setup, c.in-Some.plan) in
    let new = c.read_piece.new.self in
    let whole : Some h ≡ header_in new.intake.reader.draft =
    sym c.in-Some.is ∙ c.in_ok-setup.ensures
    ∙ ap (λ (r : Reading). header_in r.intake.reader.draft) c.reader.view_is in
    all_opened (g.S.TextSource.left c.args.source) c.loop-reader.reader new h whole
    c.loop-reader.invariant.1 c.in_ok-read_piece.ensures.goes_on
    c.in_ok-read_piece.ensures.ended
