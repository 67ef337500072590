use Rattle.std.proofs.Common.{◌≡◌, ◌-◌, arith, sym, ap, ◌∙◌}
use Rattle.run_events.specs.declared.name.Name.{Name}
use Rattle.step_book.specs.Log.{round_of, state_before}
use Rattle.step_book.proofs.Events.{send_facts}
use Rattle.step_book.proofs.Reading.{of_view, rows_len, rows_view, row_size}
use Rattle.step_book.proofs.Vectors.{state_read}
use Rattle.step_book.proofs.book.Book.refuses_send.Goals as goal

pub index-requires : goal.index-requires
index-requires g c =
    let v = c.args.self.now in
    let p = c.args.prepared.now in
    let n = c.name-name.result in
    let h = (of_view g.P.Plan.start g.P.Plan.nodes c.self.view_is c.self.invariant) in
    let facts = send_facts h n p.name c.is_due.result c.count_of.result c.start.result c.from.result
    c.name-name.ensures.value c.requires c.is_due.ensures.1
    (cc) c.count_of.ensures c.start.ensures.value c.from.ensures (omega arith) in
    let size = rows_len h in
    let from = ap (λ (x : Name). x.from) c.name-name.ensures.value in
    let row = row_size v.log.rows c.self.inside.states.items n.from c.index-row.result.now
    (rows_view c.self.view_is) (omega (arith, c.requires.from)) c.index-row.ensures in
    let same = ap (round_of v.log) from in
    let round = ap (λ (x : Name). x.round) c.name-name.ensures.value in
    let first = c.requires.first in
    omega (arith, facts.2)

pub returns-then-not-same : goal.returns-then-not-same
returns-then-not-same g c =
    let v = c.args.self.now in
    let p = c.args.prepared.now in
    let n = c.name-name.result in
    let h = (of_view g.P.Plan.start g.P.Plan.nodes c.self.view_is c.self.invariant) in
    let facts = send_facts h n p.name c.is_due.result c.count_of.result c.start.result c.from.result
    c.name-name.ensures.value c.requires c.is_due.ensures.1
    (cc) c.count_of.ensures c.start.ensures.value c.from.ensures (omega arith) in
    let size = rows_len h in
    let from = ap (λ (x : Name). x.from) c.name-name.ensures.value in
    let row = row_size v.log.rows c.self.inside.states.items n.from c.index-row.result.now
    (rows_view c.self.view_is) (omega (arith, c.requires.from)) c.index-row.ensures in
    let same = ap (round_of v.log) from in
    let round = ap (λ (x : Name). x.round) c.name-name.ensures.value in
    let first = c.requires.first in
    let read = state_read c.self.inside.states.items n.from v.log.rows
    (n.round - 1) c.index-row.result.now c.index.result.now (rows_view c.self.view_is)
    (omega (arith, c.requires.from)) c.index-row.ensures
    (omega (arith, facts.2)) c.index.ensures in
    let own : state_before v.log p.name.from p.name.round ≡ c.deref.result.now =
    ap (λ (x : Name). state_before v.log x.from x.round) (sym c.name-name.ensures.value) ∙ read
    ∙ sym c.deref.ensures in
    (facts.0, facts.1, λ e. (let on = c.same.ensures.1 (sym own ∙ e ∙ sym c.state.ensures) in cc))

pub returns : goal.returns
returns g c =
    let v = c.args.self.now in
    let p = c.args.prepared.now in
    let n = c.name-name.result in
    let h = (of_view g.P.Plan.start g.P.Plan.nodes c.self.view_is c.self.invariant) in
    let facts = send_facts h n p.name c.is_due.result c.count_of.result c.start.result c.from.result
    c.name-name.ensures.value c.requires c.is_due.ensures.1
    (cc) c.count_of.ensures c.start.ensures.value c.from.ensures (omega arith) in
    let size = rows_len h in
    let from = ap (λ (x : Name). x.from) c.name-name.ensures.value in
    let row = row_size v.log.rows c.self.inside.states.items n.from c.index-row.result.now
    (rows_view c.self.view_is) (omega (arith, c.requires.from)) c.index-row.ensures in
    let same = ap (round_of v.log) from in
    let round = ap (λ (x : Name). x.round) c.name-name.ensures.value in
    let first = c.requires.first in
    let read = state_read c.self.inside.states.items n.from v.log.rows
    (n.round - 1) c.index-row.result.now c.index.result.now (rows_view c.self.view_is)
    (omega (arith, c.requires.from)) c.index-row.ensures
    (omega (arith, facts.2)) c.index.ensures in
    let own : state_before v.log p.name.from p.name.round ≡ c.deref.result.now =
    ap (λ (x : Name). state_before v.log x.from x.round) (sym c.name-name.ensures.value) ∙ read
    ∙ sym c.deref.ensures in
    (facts.0, facts.1, own ∙ c.same.ensures.0 (cc) ∙ c.state.ensures)
