use Rattle.std.proofs.Common.{arith}
use Rattle.run_events.specs.declared.event.Event.TheVariants.{Step}
use Rattle.step_book.proofs.Effects.{idles}
use Rattle.step_book.proofs.Events.{count_le, idle, to_fields}
use Rattle.step_book.proofs.Reading.{storable_node, nodes_view, of_view, trace_view}
use Rattle.step_book.proofs.book.Book.record_idle_step.Goals as goal

pub note_step-requires-clause-counted : goal.note_step-requires-clause-counted
note_step-requires-clause-counted g c =
    let nodes = nodes_view c.self.view_is in
    let n = count_le c.self.invariant c.args.node (omega (arith, c.requires.node)) in
    omega arith

pub invariant_of-self-2 : goal.invariant_of-self-2
invariant_of-self-2 g c =
    let v = c.args.self.now in
    to_fields g.P.Plan.start g.P.Plan.nodes c.self.view_is
    (idle (of_view g.P.Plan.start g.P.Plan.nodes c.self.view_is c.self.invariant) c.args.node _ _
    c.requires.node c.requires.past
    (trace_view (Step c.args.node) _ c.self.view_is c.in_ok-note_step.ensures.trace)
    c.in_ok-note_step.ensures.steps)

pub note_step-requires-clause-storable : goal.note_step-requires-clause-storable
note_step-requires-clause-storable g c =
    storable_node (of_view g.P.Plan.start g.P.Plan.nodes c.self.view_is c.self.invariant)
    c.args.node c.requires.node

pub returns-clause-ok : goal.returns-clause-ok
returns-clause-ok g c =
    idles g.P.Plan.start g.P.Plan.nodes c.self.view_is c.self.invariant c.args.node _
    c.requires.node c.requires.past c.in_ok-note_step.ensures.trace
