use Rattle.std.proofs.Common.{arith, subst, ap, refl}
use Rattle.run_events.specs.declared.event.Event.TheVariants.{Release}
use Rattle.step_book.specs.declared.mark.Mark.TheVariants.{Released, Unsent}
use Rattle.step_book.specs.Tables.{Puts}
use Rattle.step_book.specs.Mailing.{Mailed}
use Rattle.step_book.specs.Log.{IsFlying}
use Rattle.step_book.proofs.Effects.{releases}
use Rattle.step_book.proofs.Events.{kept, moved, let_be, to_fields}
use Rattle.step_book.proofs.Names.{storable_name}
use Rattle.step_book.proofs.Reading.{of_view, trace_view}
use Rattle.step_book.proofs.Reading.{flying_in, handed_len}
use Rattle.step_book.proofs.Reading.{lists_len, waiting_len, waits_len}
use Rattle.step_book.proofs.Vectors.{lists_same, waits_push, waits_same}
use Rattle.step_book.proofs.book.Book.release.Goals as goal

pub index_mut-requires : goal.index_mut-requires
index_mut-requires g c =
    let n = waiting_len (of_view g.P.Plan.start g.P.Plan.nodes c.self.view_is c.self.invariant) in
    let m = waits_len c.self.inside.mails.items in
    omega (arith, c.requires.to)

pub invariant_of-self : goal.invariant_of-self
invariant_of-self g c =
    let s = c.self.inside in
    let a = waiting_len (of_view g.P.Plan.start g.P.Plan.nodes c.self.view_is c.self.invariant) in
    let b = waits_len s.mails.items in
    let d = handed_len (of_view g.P.Plan.start g.P.Plan.nodes c.self.view_is c.self.invariant) in
    let e = lists_len s.mails.items in
    let same = c.in_err-note_release.ensures.mail_kept in
    kept c.self.invariant _ _ _ _ _ _ _ c.in_err-note_release.ensures.trace_kept refl (λ a q. refl)
    (waits_same s.mails.items c.args.name.to c.index_mut.result.now c.note_release.new.mail
    (omega (arith, c.requires.to)) c.index_mut.ensures.value
    (ap (λ (m : Mailed). m.waiting) same))
    (lists_same s.mails.items c.args.name.to c.index_mut.result.now c.note_release.new.mail
    (omega (arith, c.requires.to)) c.index_mut.ensures.value
    (ap (λ (m : Mailed). m.handed) same))
    c.in_err-note_release.ensures.answers_kept refl

pub put-requires-clause-place : goal.put-requires-clause-place
put-requires-clause-place g c =
    flying_in (of_view g.P.Plan.start g.P.Plan.nodes c.self.view_is c.self.invariant) c.args.name
    c.place-place.result c.requires (c.is_flying.ensures.0 cc) c.place-place.ensures

pub invariant_of-self-then-is_flying : goal.invariant_of-self-then-is_flying
invariant_of-self-then-is_flying g c =
    let s = c.self.inside in
    let v = c.args.self.now in
    let n = c.args.name in
    let h = (of_view g.P.Plan.start g.P.Plan.nodes c.self.view_is c.self.invariant) in
    let a = waiting_len h in
    let b = waits_len s.mails.items in
    let d = handed_len h in
    let o = lists_len s.mails.items in
    let fly : IsFlying (g.P.Plan.start v.plan) v.log n = c.is_flying.ensures.0 cc in
    to_fields g.P.Plan.start g.P.Plan.nodes c.self.view_is
    (moved h n _ _ c.place-place.result _ _ _ c.requires fly c.place-place.ensures
    (trace_view (Release n) _ c.self.view_is c.in_ok-note_release.ensures.trace)
    (subst (λ m. Puts Unsent s.marks c.put.new.self n.copy c.place-place.result m)
    (ap Released c.counted.ensures.value) c.put.ensures)
    (waits_push s.mails.items n.to c.index_mut.result.now c.note_release.new.mail n
    (omega (arith, c.requires.to)) c.index_mut.ensures.value
    c.in_ok-note_release.ensures.waiting)
    (lists_same s.mails.items n.to c.index_mut.result.now c.note_release.new.mail
    (omega (arith, c.requires.to)) c.index_mut.ensures.value
    c.in_ok-note_release.ensures.handed)
    c.in_ok-note_release.ensures.answers)

pub invariant_of-self-2 : goal.invariant_of-self-2
invariant_of-self-2 g c =
    let v = c.args.self.now in
    let n = c.args.name in
    to_fields g.P.Plan.start g.P.Plan.nodes c.self.view_is
    (let_be (of_view g.P.Plan.start g.P.Plan.nodes c.self.view_is c.self.invariant) n _ _ c.requires
    (λ fly. (let on = c.is_flying.ensures.1 fly in cc))
    (trace_view (Release n) _ c.self.view_is c.in_ok-note_answer.ensures.trace)
    c.in_ok-note_answer.ensures.answers)

pub note_release-requires : goal.note_release-requires
note_release-requires g c =
    storable_name _ (of_view g.P.Plan.start g.P.Plan.nodes c.self.view_is
    c.self.invariant).lawful.sized c.args.name c.requires

pub note_answer-requires : goal.note_answer-requires
note_answer-requires g c =
    storable_name _ (of_view g.P.Plan.start g.P.Plan.nodes c.self.view_is
    c.self.invariant).lawful.sized c.args.name c.requires

pub returns-then-is_flying-clause-ok : goal.returns-then-is_flying-clause-ok
returns-then-is_flying-clause-ok g c =
    releases g.P.Plan.start g.P.Plan.nodes c.self.view_is c.self.invariant c.args.name _ _ _
    c.requires c.is_flying.ensures (cc) c.in_ok-note_release.ensures.trace

pub returns-clause-ok : goal.returns-clause-ok
returns-clause-ok g c =
    releases g.P.Plan.start g.P.Plan.nodes c.self.view_is c.self.invariant c.args.name _ _ _
    c.requires c.is_flying.ensures (cc) c.in_ok-note_answer.ensures.trace
