use Rattle.step_book.proofs.Reading.{of_view, faithful}
use Rattle.step_book.proofs.book.Book.agrees.Goals as goal

pub returns-clause-faithful : goal.returns-clause-faithful
returns-clause-faithful g c =
    faithful (of_view g.P.Plan.start g.P.Plan.nodes c.self.view_is c.self.invariant)

pub returns-clause-sized : goal.returns-clause-sized
returns-clause-sized g c =
    (of_view g.P.Plan.start g.P.Plan.nodes c.self.view_is c.self.invariant).sized

pub returns-clause-lawful : goal.returns-clause-lawful
returns-clause-lawful g c =
    (of_view g.P.Plan.start g.P.Plan.nodes c.self.view_is c.self.invariant).lawful
