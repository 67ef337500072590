use Rattle.std.proofs.Common.{refl}
use Rattle.run_events.specs.declared.event.Event.TheVariants.{Copy}
use Rattle.step_book.specs.declared.mark.Mark.TheVariants.{Flying, Unsent}
use Rattle.step_book.proofs.Effects.{makes_copy}
use Rattle.step_book.proofs.Events.{kept, made, not_made, to_fields}
use Rattle.step_book.proofs.Names.{storable_name}
use Rattle.step_book.proofs.Reading.{of_view, trace_view}
use Rattle.step_book.proofs.Tables.{puts_after}
use Rattle.step_book.proofs.book.Book.make_copy.Goals as goal

pub invariant_of-self-then-can_copy : goal.invariant_of-self-then-can_copy
invariant_of-self-then-can_copy g c =
    to_fields g.P.Plan.start g.P.Plan.nodes c.self.view_is
    (made (of_view g.P.Plan.start g.P.Plan.nodes c.self.view_is c.self.invariant) c.args.name _ _
    c.place-place.result _ c.requires.name c.requires.other
    (c.can_copy.ensures.0 cc) c.place-place.ensures
    (trace_view (Copy c.args.name) _ c.self.view_is c.in_ok-note_answer.ensures.trace)
    (puts_after Unsent _ _ _ c.args.name.copy c.place-place.result Flying
    c.in_ok-reserve.ensures.same c.put.ensures) c.in_ok-note_answer.ensures.answers)

pub invariant_of-self-2 : goal.invariant_of-self-2
invariant_of-self-2 g c =
    to_fields g.P.Plan.start g.P.Plan.nodes c.self.view_is
    (not_made (of_view g.P.Plan.start g.P.Plan.nodes c.self.view_is c.self.invariant) c.args.name _
    _ c.requires.name c.requires.other (λ fit. (let on = c.can_copy.ensures.1 fit in cc))
    (trace_view (Copy c.args.name) _ c.self.view_is c.in_ok-note_answer-2.ensures.trace)
    c.in_ok-note_answer-2.ensures.answers)

pub invariant_of-self : goal.invariant_of-self
invariant_of-self g c = kept c.self.invariant _ _ _ _ _ _ _ refl refl c.in_err-reserve.ensures.same
    refl refl refl refl

pub invariant_of-self-in_err-note_answer : goal.invariant_of-self-in_err-note_answer
invariant_of-self-in_err-note_answer g c =
    kept c.self.invariant _ _ _ _ _ _ _ c.in_err-note_answer.ensures.trace_kept refl
    c.in_ok-reserve.ensures.same refl refl c.in_err-note_answer.ensures.answers_kept refl

pub note_answer-requires : goal.note_answer-requires
note_answer-requires g c =
    storable_name _ (of_view g.P.Plan.start g.P.Plan.nodes c.self.view_is
    c.self.invariant).lawful.sized c.args.name c.requires.name

pub returns-then-can_copy-clause-ok : goal.returns-then-can_copy-clause-ok
returns-then-can_copy-clause-ok g c =
    makes_copy g.P.Plan.start g.P.Plan.nodes c.self.view_is c.self.invariant c.args.name _ _ _
    c.requires.name c.requires.other c.can_copy.ensures (cc) c.in_ok-note_answer.ensures.trace

pub returns-clause-ok : goal.returns-clause-ok
returns-clause-ok g c =
    makes_copy g.P.Plan.start g.P.Plan.nodes c.self.view_is c.self.invariant c.args.name _ _ _
    c.requires.name c.requires.other c.can_copy.ensures (cc) c.in_ok-note_answer-2.ensures.trace
