use Rattle.std.proofs.Common.{◌≡◌, ◌+◌, ◌-◌, ◌*◌, [], ◌∷◌, ◌++◌, get_or, set, arith, sym}
use Rattle.std.proofs.Common.{subst, ap, ◌∙◌, refl}
use Rattle.run_events.specs.declared.event.Event.TheVariants.{Step}
use Rattle.run_events.specs.declared.name.Name.{Name}
use Rattle.step_book.specs.History.{arrival}
use Rattle.run_events.specs.Stored.{IsStorableName}
use Rattle.step_book.proofs.Effects.{sends}
use Rattle.step_book.proofs.Events.{count_le, kept, sent, to_fields}
use Rattle.step_book.proofs.Names.{storable_name}
use Rattle.step_book.proofs.Reading.{of_view, nodes_view, trace_view}
use Rattle.step_book.proofs.book.Book.record_send.Goals as goal

pub note_send-requires-clause-counted : goal.note_send-requires-clause-counted
note_send-requires-clause-counted g c =
    let nodes = nodes_view c.self.view_is in
    let from = ap (λ (n : Name). n.from) c.name-name.ensures.value in
    let n = count_le c.self.invariant c.name-name.result.from
    (omega (arith, c.requires.name.from)) in
    omega arith

pub invariant_of-self : goal.invariant_of-self
invariant_of-self g c =
    kept c.self.invariant _ _ _ _ _ _ _ c.in_err-note_send.ensures.trace_kept
    c.in_err-note_send.ensures.steps_kept c.in_err-note_send.ensures.marks_kept refl refl refl
    c.in_err-note_send.ensures.messages_kept

pub invariant_of-self-2 : goal.invariant_of-self-2
invariant_of-self-2 g c =
    let v = c.args.self.now in
    let p = c.args.prepared.now in
    to_fields g.P.Plan.start g.P.Plan.nodes c.self.view_is
    (sent (of_view g.P.Plan.start g.P.Plan.nodes c.self.view_is c.self.invariant) p _ _ _
    c.place-place.result c.spoken-mark.result _ c.requires.name
    (sym (ap (λ (n : Name). n.copy) c.name-name.ensures.value)
    ∙ c.name-name.ensures.original) c.requires.work c.requires.fit
    (subst (λ (n : Name). c.place-place.result
    ≡ ((n.round - 1) * v.log.setup.nodes + n.from) * v.log.setup.nodes + n.to)
    c.name-name.ensures.value c.place-place.ensures)
    c.spoken-mark.ensures.value
    (trace_view (Step p.name.from) _ c.self.view_is (c.in_ok-note_send.ensures.trace
    ∙ ap (λ (n : Name). c.self.inside.trace.items ++ Step n.from ∷ [])
    c.name-name.ensures.value))
    (c.in_ok-note_send.ensures.steps
    ∙ ap (λ (n : Name). set c.self.inside.steps.items n.from
    (get_or c.self.inside.steps.items n.from 0 + 1)) c.name-name.ensures.value)
    c.in_ok-note_send.ensures.marks
    (c.in_ok-note_send.ensures.messages
    ∙ ap (λ (n : Name). c.self.inside.messages.items ++ arrival n c.spoken-mark.result)
    c.name-name.ensures.value))

pub note_send-requires-clause-storable : goal.note_send-requires-clause-storable
note_send-requires-clause-storable g c =
    let h = of_view g.P.Plan.start g.P.Plan.nodes c.self.view_is c.self.invariant in
    subst (λ n. IsStorableName n) (sym c.name-name.ensures.value)
    (storable_name _ h.lawful.sized c.args.prepared.now.name c.requires.name)

pub returns-clause-ok : goal.returns-clause-ok
returns-clause-ok g c =
    let name = c.name-name.ensures.value in
    sends g.P.Plan.start g.P.Plan.nodes c.self.view_is c.self.invariant c.args.prepared.now _
    c.requires.name (sym (ap (λ (n : Name). n.copy) name) ∙ c.name-name.ensures.original)
    c.requires.work c.requires.fit
    (c.in_ok-note_send.ensures.trace
    ∙ ap (λ (n : Name). c.self.inside.trace.items ++ Step n.from ∷ []) name)
