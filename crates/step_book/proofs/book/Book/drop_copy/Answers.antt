use Rattle.run_events.specs.declared.event.Event.TheVariants.{Drop}
use Rattle.step_book.proofs.Effects.{drops}
use Rattle.step_book.proofs.Events.{lost, not_lost, to_fields}
use Rattle.step_book.proofs.Names.{storable_name}
use Rattle.step_book.proofs.Reading.{flying_in, of_view, trace_view}
use Rattle.step_book.proofs.book.Book.drop_copy.Goals as goal

pub put-requires-clause-place : goal.put-requires-clause-place
put-requires-clause-place g c =
    flying_in (of_view g.P.Plan.start g.P.Plan.nodes c.self.view_is c.self.invariant) c.args.name
    c.place-place.result c.requires (c.is_flying.ensures.0 cc) c.place-place.ensures

pub invariant_of-self-then-is_flying : goal.invariant_of-self-then-is_flying
invariant_of-self-then-is_flying g c =
    to_fields g.P.Plan.start g.P.Plan.nodes c.self.view_is
    (lost (of_view g.P.Plan.start g.P.Plan.nodes c.self.view_is c.self.invariant) c.args.name _ _
    c.place-place.result _ c.requires (c.is_flying.ensures.0 cc) c.place-place.ensures
    (trace_view (Drop c.args.name) _ c.self.view_is c.in_ok-note_answer.ensures.trace) c.put.ensures
    c.in_ok-note_answer.ensures.answers)

pub invariant_of-self-2 : goal.invariant_of-self-2
invariant_of-self-2 g c =
    to_fields g.P.Plan.start g.P.Plan.nodes c.self.view_is
    (not_lost (of_view g.P.Plan.start g.P.Plan.nodes c.self.view_is c.self.invariant) c.args.name _
    _ c.requires (λ fly. (let on = c.is_flying.ensures.1 fly in cc))
    (trace_view (Drop c.args.name) _ c.self.view_is c.in_ok-note_answer-2.ensures.trace)
    c.in_ok-note_answer-2.ensures.answers)

pub note_answer-requires : goal.note_answer-requires
note_answer-requires g c =
    storable_name _ (of_view g.P.Plan.start g.P.Plan.nodes c.self.view_is
    c.self.invariant).lawful.sized c.args.name c.requires

pub returns-then-is_flying-clause-ok : goal.returns-then-is_flying-clause-ok
returns-then-is_flying-clause-ok g c =
    drops g.P.Plan.start g.P.Plan.nodes c.self.view_is c.self.invariant c.args.name _ _ _
    c.requires c.is_flying.ensures (cc) c.in_ok-note_answer.ensures.trace

pub returns-clause-ok : goal.returns-clause-ok
returns-clause-ok g c =
    drops g.P.Plan.start g.P.Plan.nodes c.self.view_is c.self.invariant c.args.name _ _ _
    c.requires c.is_flying.ensures (cc) c.in_ok-note_answer-2.ensures.trace
