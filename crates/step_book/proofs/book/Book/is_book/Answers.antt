use Rattle.step_book.proofs.Reading.{has_book, of_view}
use Rattle.step_book.proofs.book.Book.is_book.Goals as goal

pub returns : goal.returns
returns g c = has_book (of_view g.P.Plan.start g.P.Plan.nodes c.self.view_is c.self.invariant)
