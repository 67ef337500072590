use Rattle.std.proofs.Common.{subst}
use Rattle.std.proofs.lemmas.Result.{err_from_is_err_and}
use Rattle.schedule_text.specs.Readers.{AdvancesTo, IsRefusedAs, Reading}
use Rattle.schedule_text.proofs.Readers.{advanced, refused_behind}
use Rattle.schedule_text.proofs.schedule_reader.ScheduleReader.advance.Goals as goal

pub returns-in_err-read_piece-clause-refused : goal.returns-in_err-read_piece-clause-refused
returns-in_err-read_piece-clause-refused g c =
    let r = c.self.inside in
    let old : Reading = record {
      left = g.S.TextSource.left r.source;
      intake = r.intake;
      count = r.count;
      is_ended = r.is_ended;
    } in
    let e = c.in_err-read_piece.field-0.0 in
    let p = err_from_is_err_and c.from_residual.result c.from_residual.ensures.1 in
    rw (p.1, p.2) (subst (λ (x : Reading). IsRefusedAs x e) c.self.view_is
    (refused_behind old c.clear_events.new.self e c.if-self.false c.clear_events.ensures
    c.in_err-read_piece.ensures.refused))

pub returns-clause-read : goal.returns-clause-read
returns-clause-read g c _ =
    let r = c.self.inside in
    let old : Reading = record {
      left = g.S.TextSource.left r.source;
      intake = r.intake;
      count = r.count;
      is_ended = r.is_ended;
    } in
    let new = c.read_piece.new.self in
    subst (λ (x : Reading). AdvancesTo x new) c.self.view_is
    (advanced old new c.clear_events.new.self c.if-self.false c.clear_events.ensures
    c.in_ok-read_piece.ensures.goes_on c.in_ok-read_piece.ensures.ended)
