use Rattle.std.proofs.Common.{List, None, Option, subst, ap}
use Rattle.step_machine.specs.Sealed.{Frame}
use Rattle.step_book.specs.Effects.{Releases}
use Rattle.step_book.specs.Log.{Recorded}
use Rattle.step_book.specs.Tables.{read_at}
use Rattle.step_journal.proofs.BufferViews.{
  fits_kept,
  fits_let_be,
  fits_moved,
  fits_view,
  name_view,
}
use Rattle.step_journal.proofs.BufferViews.{place_view}
use Rattle.step_journal.proofs.journal.Journal.release.Goals as goal

pub invariant_of-self-then-moved : goal.invariant_of-self-then-moved
invariant_of-self-then-moved g c =
    let s = c.self.inside.book in
    let n = c.args.name in
    let ok = c.in_ok-moved.ensures.ok.recorded in
    let name = name_view n c.self.view_is c.requires in
    let done = subst (λ (z : Recorded _). Releases g.P.Plan.start n c.in_ok-moved.moved s z) ok
    c.in_ok-moved.ensures.ok in
    fits_view g.P.Plan.start ok
    (fits_moved c.self.invariant n c.place-place.result c.index_mut-buffer.result.now
    c.reserve_waiting.new.self c.index_mut-buffer-then-moved.result.now c.let_go.new.self
    name (c.in_ok-moved.ensures.ok.moved.0 (cc))
    (place_view n c.place-place.result c.self.view_is c.place-place.ensures)
    c.index_mut-buffer.ensures.value c.reserve_waiting.ensures.run
    c.in_ok-reserve_waiting.ensures.flying c.in_ok-reserve_waiting.ensures.waiting
    c.index_mut-buffer-then-moved.ensures.value c.let_go.ensures.run
    c.let_go.ensures.flying c.let_go.ensures.waiting
    done.mark done.marks done.arrived done.waiting)

pub invariant_of-self-else-moved : goal.invariant_of-self-else-moved
invariant_of-self-else-moved g c =
    let s = c.self.inside.book in
    let n = c.args.name in
    let ok = c.in_ok-moved.ensures.ok.recorded in
    let a = name_view n c.self.view_is c.requires in
    let done = subst (λ (z : Recorded _). Releases g.P.Plan.start n c.in_ok-moved.moved s z) ok
    c.in_ok-moved.ensures.ok in
    fits_view g.P.Plan.start ok
    (fits_let_be
    (fits_kept c.self.invariant n.to c.index_mut-buffer.result.now c.reserve_waiting.new.self a.to
    c.index_mut-buffer.ensures.value c.reserve_waiting.ensures.run
    (λ c' k. ap (λ (x : List (List (Option Frame))). read_at None x c' k)
    c.in_ok-reserve_waiting.ensures.flying) c.in_ok-reserve_waiting.ensures.waiting)
    n (λ fit. (let on = c.in_ok-moved.ensures.ok.moved.1 fit in cc))
    done.mark done.marks done.arrived done.waiting)
