use Rattle.std.proofs.Common.{◌≡◌, ◌-◌, arith, sym, ap, ◌∙◌}
use Rattle.step_book.specs.Log.{round_of, state_before}
use Rattle.step_book.proofs.Reading.{of_view, rows_len, rows_view, row_size}
use Rattle.step_book.proofs.Vectors.{state_read}
use Rattle.step_book.proofs.book.Book.is_known.Goals as goal

pub index-requires : goal.index-requires
index-requires g c =
    let v = c.args.self.now in
    let size = rows_len (of_view g.P.Plan.start g.P.Plan.nodes c.self.view_is c.self.invariant) in
    let row = row_size v.log.rows c.self.inside.states.items c.args.node c.index-row.result.now
    (rows_view c.self.view_is) (omega (arith, c.requires.node)) c.index-row.ensures in
    omega (arith, c.round_of-round.ensures.value, c.round_of-round.ensures.low)

pub returns-then-not-same : goal.returns-then-not-same
returns-then-not-same g c =
    let v = c.args.self.now in
    let size = rows_len (of_view g.P.Plan.start g.P.Plan.nodes c.self.view_is c.self.invariant) in
    let row = row_size v.log.rows c.self.inside.states.items c.args.node c.index-row.result.now
    (rows_view c.self.view_is) (omega (arith, c.requires.node)) c.index-row.ensures in
    let own : state_before v.log c.args.node (round_of v.log c.args.node) ≡ c.deref.result.now =
    ap (state_before v.log c.args.node) (sym c.round_of-round.ensures.value)
    ∙ state_read c.self.inside.states.items c.args.node v.log.rows
    (c.round_of-round.result - 1) c.index-row.result.now c.index.result.now
    (rows_view c.self.view_is) (omega (arith, c.requires.node)) c.index-row.ensures
    (omega (arith, c.round_of-round.ensures.value, c.round_of-round.ensures.low))
    c.index.ensures
    ∙ sym c.deref.ensures in
    (λ e. cc, λ both. (let on = c.same.ensures.1 (sym own ∙ both.0) in cc))

pub returns : goal.returns
returns g c =
    let v = c.args.self.now in
    let size = rows_len (of_view g.P.Plan.start g.P.Plan.nodes c.self.view_is c.self.invariant) in
    let row = row_size v.log.rows c.self.inside.states.items c.args.node c.index-row.result.now
    (rows_view c.self.view_is) (omega (arith, c.requires.node)) c.index-row.ensures in
    let own : state_before v.log c.args.node (round_of v.log c.args.node) ≡ c.deref.result.now =
    ap (state_before v.log c.args.node) (sym c.round_of-round.ensures.value)
    ∙ state_read c.self.inside.states.items c.args.node v.log.rows
    (c.round_of-round.result - 1) c.index-row.result.now c.index.result.now
    (rows_view c.self.view_is) (omega (arith, c.requires.node)) c.index-row.ensures
    (omega (arith, c.round_of-round.ensures.value, c.round_of-round.ensures.low))
    c.index.ensures
    ∙ sym c.deref.ensures in (
      λ e. (own ∙ c.same.ensures.0 (cc), c.are_carried.ensures.0 e),
      λ both. c.are_carried.ensures.1 both.1,
    )
