use Rattle.std.proofs.Common.{ℕ, None, subst}
use Rattle.step_book.specs.Effects.{Drops}
use Rattle.step_book.specs.Log.{Recorded}
use Rattle.step_book.specs.Tables.{Puts}
use Rattle.step_journal.proofs.BufferViews.{fits_lost, fits_view, name_view, place_view}
use Rattle.step_journal.proofs.journal.Journal.drop_frame.Goals as goal

pub invariant_of-self-then-lost : goal.invariant_of-self-then-lost
invariant_of-self-then-lost g c =
    let s = c.self.inside.book in
    let n = c.args.name in
    let ok = c.in_ok-lost.ensures.ok.recorded in
    let old = c.index_mut-buffer.result.now in
    let done = subst (λ (z : Recorded _). Drops g.P.Plan.start n c.in_ok-lost.lost s z) ok
    c.in_ok-lost.ensures.ok in
    fits_view g.P.Plan.start ok
    (fits_lost c.self.invariant n old c.remove.new.self (name_view n c.self.view_is c.requires)
    (c.in_ok-lost.ensures.ok.lost.0 (cc)) c.index_mut-buffer.ensures.value c.remove.ensures.run
    (subst (λ (z : ℕ). Puts None old.flying c.remove.new.self.flying n.round z None)
    (place_view n c.place-place.result c.self.view_is c.place-place.ensures)
    c.remove.ensures.flying)
    c.remove.ensures.waiting done.mark done.marks done.waiting)
