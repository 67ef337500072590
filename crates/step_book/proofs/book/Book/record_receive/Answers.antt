use Rattle.std.proofs.Common.{arith, sym, ap, refl}
use Rattle.run_events.specs.declared.event.Event.TheVariants.{Step}
use Rattle.step_book.specs.Mailing.{Mailed}
use Rattle.step_book.proofs.Effects.{receives}
use Rattle.step_book.proofs.Events.{count_le, kept, received, to_fields}
use Rattle.step_book.proofs.Reading.{storable_node, of_view, nodes_view, trace_view}
use Rattle.step_book.proofs.Reading.{counts_len, handed_len, waiting_len, lists_len, waits_len}
use Rattle.step_book.proofs.Reading.{waits_read}
use Rattle.step_book.proofs.Vectors.{waits_set, waits_same, lists_push, lists_same}
use Rattle.step_book.proofs.book.Book.record_receive.Goals as goal

pub index_mut-requires : goal.index_mut-requires
index_mut-requires g c =
    let n = handed_len (of_view g.P.Plan.start g.P.Plan.nodes c.self.view_is c.self.invariant) in
    let m = lists_len c.self.inside.mails.items in
    omega (arith, c.requires.node)

pub note_receive-requires-clause-node_in : goal.note_receive-requires-clause-node_in
note_receive-requires-clause-node_in g c =
    let n = counts_len (of_view g.P.Plan.start g.P.Plan.nodes c.self.view_is c.self.invariant) in
    omega (arith, c.requires.node)

pub note_receive-requires-clause-counted : goal.note_receive-requires-clause-counted
note_receive-requires-clause-counted g c =
    let nodes = nodes_view c.self.view_is in
    let n = count_le c.self.invariant c.args.node (omega (arith, c.requires.node)) in
    omega arith

pub invariant_of-self : goal.invariant_of-self
invariant_of-self g c =
    let s = c.self.inside in
    let k = c.args.node in
    let nodes = nodes_view c.self.view_is in
    let a = waiting_len c.self.invariant in
    let b = waits_len s.mails.items in
    let d = handed_len c.self.invariant in
    let e = lists_len s.mails.items in
    let same = c.in_err-note_receive.ensures.mail_kept in
    kept c.self.invariant _ _ _ _ _ _ _ c.in_err-note_receive.ensures.trace_kept
    c.in_err-note_receive.ensures.steps_kept (λ a q. refl)
    (waits_same s.mails.items k c.index_mut.result.now c.note_receive.new.mail
    (omega (arith, c.requires.node)) c.index_mut.ensures.value
    (ap (λ (m : Mailed). m.waiting) same))
    (lists_same s.mails.items k c.index_mut.result.now c.note_receive.new.mail
    (omega (arith, c.requires.node)) c.index_mut.ensures.value
    (ap (λ (m : Mailed). m.handed) same))
    refl refl

pub invariant_of-self-2 : goal.invariant_of-self-2
invariant_of-self-2 g c =
    let s = c.self.inside in
    let v = c.args.self.now in
    let k = c.args.node in
    let h = (of_view g.P.Plan.start g.P.Plan.nodes c.self.view_is c.self.invariant) in
    let a = waiting_len h in
    let b = waits_len s.mails.items in
    let d = handed_len h in
    let e = lists_len s.mails.items in
    to_fields g.P.Plan.start g.P.Plan.nodes c.self.view_is
    (received h k _ _ _ _ _ c.requires.node c.requires.fit
    (sym (waits_read s.mails.items k c.index_mut.result.now
    (omega (arith, c.requires.node)) c.index_mut.ensures.value))
    (trace_view (Step k) _ c.self.view_is c.in_ok-note_receive.ensures.trace)
    c.in_ok-note_receive.ensures.steps
    (waits_set s.mails.items k c.note_receive.new.mail _ c.in_ok-note_receive.ensures.waiting)
    (lists_push s.mails.items k c.index_mut.result.now c.note_receive.new.mail _
    (omega (arith, c.requires.node)) c.index_mut.ensures.value
    c.in_ok-note_receive.ensures.handed))

pub note_receive-requires-clause-storable : goal.note_receive-requires-clause-storable
note_receive-requires-clause-storable g c =
    storable_node (of_view g.P.Plan.start g.P.Plan.nodes c.self.view_is c.self.invariant)
    c.args.node c.requires.node

pub returns-clause-ok : goal.returns-clause-ok
returns-clause-ok g c =
    receives g.P.Plan.start g.P.Plan.nodes c.self.view_is c.self.invariant c.args.node _
    c.requires.fit c.in_ok-note_receive.ensures.trace
