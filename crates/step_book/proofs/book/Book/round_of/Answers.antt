use Rattle.std.proofs.Common.{ap, arith, length}
use Rattle.step_book.proofs.Reading.{of_view, rows_len, round_low, round_high, rounds_few}
use Rattle.step_book.proofs.Reading.{rows_view, row_size, rows_of_len}
use Rattle.step_book.proofs.book.Book.round_of.Goals as goal

pub index-requires : goal.index-requires
index-requires g c =
    let n = rows_len (of_view g.P.Plan.start g.P.Plan.nodes c.self.view_is c.self.invariant) in
    let m = rows_of_len c.self.inside.states.items in
    let k = ap length (rows_view c.self.view_is) in
    omega (arith, c.requires, n)

pub overflow_cast-result : goal.overflow_cast-result
overflow_cast-result g c =
    let h = (of_view g.P.Plan.start g.P.Plan.nodes c.self.view_is c.self.invariant) in
    let n = rows_len h in
    let size = row_size _ c.self.inside.states.items c.args.node c.index.result.now
    (rows_view c.self.view_is) (omega (arith, c.requires)) c.index.ensures in
    let high = round_high h c.args.node c.requires in
    let few = rounds_few h in
    omega (arith, c.len.ensures)

pub returns-clause-value : goal.returns-clause-value
returns-clause-value g c =
    let n = rows_len (of_view g.P.Plan.start g.P.Plan.nodes c.self.view_is c.self.invariant) in
    let size = row_size _ c.self.inside.states.items c.args.node c.index.result.now
    (rows_view c.self.view_is) (omega (arith, c.requires)) c.index.ensures in
    omega (arith, c.len.ensures)

pub returns-clause-low : goal.returns-clause-low
returns-clause-low g c =
    let h = (of_view g.P.Plan.start g.P.Plan.nodes c.self.view_is c.self.invariant) in
    let n = rows_len h in
    let size = row_size _ c.self.inside.states.items c.args.node c.index.result.now
    (rows_view c.self.view_is) (omega (arith, c.requires)) c.index.ensures in
    let low = round_low h c.args.node c.requires in
    omega (arith, c.len.ensures)

pub returns-clause-high : goal.returns-clause-high
returns-clause-high g c =
    let h = (of_view g.P.Plan.start g.P.Plan.nodes c.self.view_is c.self.invariant) in
    let n = rows_len h in
    let size = row_size _ c.self.inside.states.items c.args.node c.index.result.now
    (rows_view c.self.view_is) (omega (arith, c.requires)) c.index.ensures in
    let high = round_high h c.args.node c.requires in
    omega (arith, c.len.ensures)

pub returns-clause-small : goal.returns-clause-small
returns-clause-small g c =
    let h = (of_view g.P.Plan.start g.P.Plan.nodes c.self.view_is c.self.invariant) in
    let n = rows_len h in
    let size = row_size _ c.self.inside.states.items c.args.node c.index.result.now
    (rows_view c.self.view_is) (omega (arith, c.requires)) c.index.ensures in
    let high = round_high h c.args.node c.requires in
    let few = rounds_few h in
    omega (arith, c.len.ensures)
