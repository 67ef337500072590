use Rattle.step_book.proofs.Reading.{none_made, of_view}
use Rattle.step_book.proofs.book.Book.has_copies.Goals as goal

pub returns : goal.returns
returns g c = λ no name is e.
    none_made (of_view g.P.Plan.start g.P.Plan.nodes c.self.view_is c.self.invariant) name
    c.args.copy is e (λ there. no (c.has_table.ensures.1 there))
