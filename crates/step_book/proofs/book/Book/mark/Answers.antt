use Rattle.std.proofs.Common.{◌∙◌}
use Rattle.step_book.proofs.Reading.{mark_read, of_view}
use Rattle.step_book.proofs.book.Book.mark.Goals as goal

pub returns : goal.returns
returns g c = c.at.ensures
    ∙ mark_read (of_view g.P.Plan.start g.P.Plan.nodes c.self.view_is c.self.invariant) c.args.name
    c.place.result c.requires c.place.ensures
