use Rattle.step_book.proofs.Reading.{of_view}
use Rattle.step_book.proofs.book.Book.messages.Goals as goal

pub returns : goal.returns
returns g c = rw c.deref.ensures.value
    (of_view g.P.Plan.start g.P.Plan.nodes c.self.view_is c.self.invariant).serials
