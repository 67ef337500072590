use Rattle.step_book.specs.Log.{world_of}
use Rattle.omission_reasons.proofs.Departing.{leaves_at}
use Rattle.omission_reasons.proofs.departure.departure.Goals as goal

pub returns : goal.returns
returns g c =
    let v = c.args.book.now.log in
    leaves_at (world_of (g.P.Plan.start c.args.book.now.plan) v) v.trace c.args.name
    c.in_ok-made.made c.first_after.result c.requires.gone c.in_ok-made.ensures
    c.first_after.ensures
