use Rattle.omission_reasons.proofs.Telling.{lost_gone, lost_reason}
use Rattle.omission_reasons.proofs.reasoning.reason_of_lost.Goals as goal

pub departure-requires-clause-gone : goal.departure-requires-clause-gone
departure-requires-clause-gone g c =
    lost_gone (g.P.Plan.start c.args.book.now.plan) c.args.book.now.log c.args.name c.requires.lost

pub returns : goal.returns
returns g c =
    lost_reason (g.P.Plan.start c.args.book.now.plan) c.args.book.now.log c.args.name
    c.in_ok-place.place c.requires.lost c.in_ok-place.ensures
