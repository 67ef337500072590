use Rattle.std.proofs.Common.{ap, ◌∙◌, arith, sym, length}
use Rattle.step_book.specs.Log.{states_of}
use Rattle.step_book.proofs.Reading.{of_view, rows_len, rows_view, row_read, rows_of_len}
use Rattle.step_book.proofs.book.Book.states.Goals as goal

pub index-requires : goal.index-requires
index-requires g c =
    let n = rows_len (of_view g.P.Plan.start g.P.Plan.nodes c.self.view_is c.self.invariant) in
    let m = rows_of_len c.self.inside.states.items in
    let k = ap length (rows_view c.self.view_is) in
    omega (arith, c.requires)

pub returns : goal.returns
returns g c =
    let n = rows_len (of_view g.P.Plan.start g.P.Plan.nodes c.self.view_is c.self.invariant) in
    ap states_of c.deref.ensures.value
    ∙ sym (row_read _ c.self.inside.states.items c.args.node c.index.result.now
    (rows_view c.self.view_is) (omega (arith, c.requires)) c.index.ensures)
