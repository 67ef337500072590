use Rattle.step_book.proofs.Reading.{of_view}
use Rattle.step_book.proofs.book.Book.plan.Goals as goal

pub returns-clause-sized : goal.returns-clause-sized
returns-clause-sized g c =
    (of_view g.P.Plan.start g.P.Plan.nodes c.self.view_is c.self.invariant).sized
