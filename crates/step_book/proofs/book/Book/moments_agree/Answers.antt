use Rattle.step_book.proofs.MomentLaws.{moments}
use Rattle.step_book.proofs.Reading.{of_view}
use Rattle.step_book.proofs.book.Book.moments_agree.Goals as goal

pub returns : goal.returns
returns g c = moments (of_view g.P.Plan.start g.P.Plan.nodes c.self.view_is c.self.invariant)
