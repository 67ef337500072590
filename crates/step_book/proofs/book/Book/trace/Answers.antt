use Rattle.step_book.proofs.Reading.{of_view, faithful}
use Rattle.step_book.proofs.book.Book.trace.Goals as goal

pub returns-clause-faithful : goal.returns-clause-faithful
returns-clause-faithful g c =
    faithful (of_view g.P.Plan.start g.P.Plan.nodes c.self.view_is c.self.invariant)
