use Rattle.std.proofs.Common.{◌≡◌, Option, subst, sym}
use Rattle.std.specs.Prelude.{IfSome, IsSome}
use Rattle.round_meaning.specs.Rounds.{algorithm_of}
use Rattle.run_events.specs.Names.{original}
use Rattle.step_machine.specs.Sealed.{Frame, IsHonest}
use Rattle.step_book.specs.Effects.{MakesCopy}
use Rattle.step_book.specs.Log.{IsFlying, Recorded}
use Rattle.step_book.specs.Buffers.{IsGenuine}
use Rattle.step_journal.proofs.BufferViews.{
  fits_kept,
  fits_made,
  fits_not_made,
  fits_view,
  name_view,
}
use Rattle.step_journal.proofs.BufferViews.{place_view, run_honest_kept}
use Rattle.step_journal.proofs.journal.Journal.copy_frame.Goals as goal

pub invariant_of-self-in_default : goal.invariant_of-self-in_default
invariant_of-self-in_default g c =
    let s = c.self.inside.book in
    let n = c.args.name in
    let ok = c.in_ok-made.ensures.ok.recorded in
    let done = subst (λ (z : Recorded _). MakesCopy g.P.Plan.start n c.in_ok-made.made s z) ok
    c.in_ok-made.ensures.ok in
    fits_view g.P.Plan.start ok
    (fits_not_made c.self.invariant n
    (λ fit.
    let some = c.in_ok-frame.ensures.there.1
    (subst (λ (z : Recorded _). IsFlying (g.P.Plan.start z.plan) z.log (original n))
    c.self.view_is fit.0) in
    let none = subst (λ (o : Option Frame). IsSome o) c.in_default.is some in
    cc)
    done.mark done.marks done.waiting)

pub invariant_of-self-in_err-reserve_flying : goal.invariant_of-self-in_err-reserve_flying
invariant_of-self-in_err-reserve_flying g c =
    let a = name_view c.args.name c.self.view_is c.requires.name in
    fits_kept c.self.invariant c.args.name.to c.index_mut-buffer.result.now
    c.reserve_flying.new.self a.to c.index_mut-buffer.ensures.value c.reserve_flying.ensures.run
    c.in_err-reserve_flying.ensures.flying c.in_err-reserve_flying.ensures.waiting

pub invariant_of-self-then-made : goal.invariant_of-self-then-made
invariant_of-self-then-made g c =
    let s = c.self.inside.book in
    let n = c.args.name in
    let ok = c.in_ok-made-2.ensures.ok.recorded in
    let done = subst (λ (z : Recorded _). MakesCopy g.P.Plan.start n c.in_ok-made-2.made s z) ok
    c.in_ok-made-2.ensures.ok in
    let named = subst (λ (o : Option Frame). IfSome o (λ frame. frame.name ≡ n)) c.in-Some.is
    c.in_ok-frame.ensures.named in
    let genuine =
    subst (λ (o : Option Frame). IfSome o
    (λ frame. IsGenuine (algorithm_of c.args.self.now.log.program c.args.self.now.log.setup)
    c.args.self.now.log.rows frame)) c.in-Some.is c.in_ok-frame.ensures.genuine in
    fits_view g.P.Plan.start ok
    (fits_made c.self.invariant n c.in-Some.frame c.place-place.result c.index_mut-buffer.result.now
    c.reserve_flying.new.self c.index_mut-buffer-then-made.result.now c.put.new.self
    (name_view n c.self.view_is c.requires.name) (c.in_ok-made-2.ensures.ok.made.0 (cc)) named
    (subst (λ (z : Recorded _). IsGenuine (algorithm_of z.log.program z.log.setup) z.log.rows
    c.in-Some.frame) (sym c.self.view_is) genuine)
    (place_view n c.place-place.result c.self.view_is c.place-place.ensures)
    c.index_mut-buffer.ensures.value c.reserve_flying.ensures.run
    c.in_ok-reserve_flying.ensures.flying c.in_ok-reserve_flying.ensures.waiting
    c.index_mut-buffer-then-made.ensures.value c.put.ensures.run c.put.ensures.flying
    c.put.ensures.waiting done.mark done.marks done.waiting)

pub invariant_of-self-else-made : goal.invariant_of-self-else-made
invariant_of-self-else-made g c =
    let s = c.self.inside.book in
    let n = c.args.name in
    let ok = c.in_ok-made-2.ensures.ok.recorded in
    let a = name_view n c.self.view_is c.requires.name in
    let done = subst (λ (z : Recorded _). MakesCopy g.P.Plan.start n c.in_ok-made-2.made s z) ok
    c.in_ok-made-2.ensures.ok in
    fits_view g.P.Plan.start ok
    (fits_not_made
    (fits_kept c.self.invariant n.to c.index_mut-buffer.result.now c.reserve_flying.new.self a.to
    c.index_mut-buffer.ensures.value c.reserve_flying.ensures.run
    c.in_ok-reserve_flying.ensures.flying c.in_ok-reserve_flying.ensures.waiting)
    n (λ fit. (let on = c.in_ok-made-2.ensures.ok.made.1 fit in cc)) done.mark done.marks
    done.waiting)

pub invariant_of-self-in_err-made-2 : goal.invariant_of-self-in_err-made-2
invariant_of-self-in_err-made-2 g c =
    let a = name_view c.args.name c.self.view_is c.requires.name in
    fits_view g.P.Plan.start c.in_err-made-2.ensures.err
    (fits_kept c.self.invariant c.args.name.to c.index_mut-buffer.result.now
    c.reserve_flying.new.self a.to c.index_mut-buffer.ensures.value c.reserve_flying.ensures.run
    c.in_ok-reserve_flying.ensures.flying c.in_ok-reserve_flying.ensures.waiting)

pub put-requires-clause-honest : goal.put-requires-clause-honest
put-requires-clause-honest g c =
    let n = c.args.name in
    let a = name_view n c.self.view_is c.requires.name in
    let genuine =
    subst (λ (o : Option Frame). IfSome o
    (λ frame. IsGenuine (algorithm_of c.args.self.now.log.program c.args.self.now.log.setup)
    c.args.self.now.log.rows frame)) c.in-Some.is c.in_ok-frame.ensures.genuine in
    run_honest_kept c.self.invariant n.to c.index_mut-buffer.result.now c.reserve_flying.new.self
    c.index_mut-buffer-then-made.result.now c.in-Some.frame
    a.to c.index_mut-buffer.ensures.value c.reserve_flying.ensures.run
    c.index_mut-buffer-then-made.ensures.value
    (subst (λ (z : Recorded _). IsHonest (algorithm_of z.log.program z.log.setup) c.in-Some.frame)
    (sym c.self.view_is) genuine.honest)
