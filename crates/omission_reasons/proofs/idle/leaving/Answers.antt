use Rattle.std.proofs.Common.{◌∙◌, sym}
use Rattle.omission_reasons.proofs.Idling.{flying_stays, silent_stays, unsent_stays}
use Rattle.omission_reasons.proofs.Telling.{lost_gone, released_gone}
use Rattle.omission_reasons.proofs.idle.leaving.Goals as goal

pub departure-requires-clause-gone : goal.departure-requires-clause-gone
departure-requires-clause-gone g c =
    lost_gone (g.P.Plan.start c.args.book.now.plan) c.args.book.now.log c.args.name
    (sym c.mark.ensures ∙ c.in-Lost.is)

pub departure-requires-in-Released-clause-gone : goal.departure-requires-in-Released-clause-gone
departure-requires-in-Released-clause-gone g c =
    released_gone (g.P.Plan.start c.args.book.now.plan) c.args.book.now.log c.args.name
    c.in-Released.field-0 (sym c.mark.ensures ∙ c.in-Released.is)

pub returns-in-Unsent : goal.returns-in-Unsent
returns-in-Unsent g c =
    unsent_stays (g.P.Plan.start c.args.book.now.plan) c.args.book.now.log c.args.name
    c.requires.loud (sym c.mark.ensures ∙ c.in-Unsent.is)

pub returns-in-Silent : goal.returns-in-Silent
returns-in-Silent g c =
    silent_stays (g.P.Plan.start c.args.book.now.plan) c.args.book.now.log c.args.name
    c.requires.loud (sym c.mark.ensures ∙ c.in-Silent.is)

pub returns-in-Flying : goal.returns-in-Flying
returns-in-Flying g c =
    flying_stays (g.P.Plan.start c.args.book.now.plan) c.args.book.now.log c.args.name
    ((c.agrees_by_places.ensures.flies c.args.name c.requires.name).0 (sym c.mark.ensures
    ∙ c.in-Flying.is))
