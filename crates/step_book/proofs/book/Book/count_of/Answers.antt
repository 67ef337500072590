use Rattle.std.proofs.Common.{arith}
use Rattle.step_book.proofs.Reading.{of_view, counts_len, count_read}
use Rattle.step_book.proofs.book.Book.count_of.Goals as goal

pub index-requires : goal.index-requires
index-requires g c =
    let n = counts_len (of_view g.P.Plan.start g.P.Plan.nodes c.self.view_is c.self.invariant) in
    omega (arith, c.requires, n)

pub returns : goal.returns
returns g c = count_read (of_view g.P.Plan.start g.P.Plan.nodes c.self.view_is c.self.invariant)
    c.args.node _ c.requires c.index.ensures
