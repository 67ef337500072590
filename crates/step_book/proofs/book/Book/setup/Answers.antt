use Rattle.step_book.proofs.Reading.{of_view}
use Rattle.step_book.proofs.book.Book.setup.Goals as goal

pub returns-clause-lawful : goal.returns-clause-lawful
returns-clause-lawful g c =
    (of_view g.P.Plan.start g.P.Plan.nodes c.self.view_is c.self.invariant).lawful
