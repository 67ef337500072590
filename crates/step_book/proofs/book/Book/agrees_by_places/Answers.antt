use Rattle.step_book.proofs.Agreed.{agreed}
use Rattle.step_book.proofs.Reading.{of_view}
use Rattle.step_book.proofs.book.Book.agrees_by_places.Goals as goal

pub returns : goal.returns
returns g c = agreed (of_view g.P.Plan.start g.P.Plan.nodes c.self.view_is c.self.invariant)
