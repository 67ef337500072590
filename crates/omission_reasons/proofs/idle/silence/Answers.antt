use Rattle.omission_reasons.proofs.Idling.{silent_made, silent_told}
use Rattle.omission_reasons.proofs.idle.silence.Goals as goal

pub making-requires-clause-made : goal.making-requires-clause-made
making-requires-clause-made g c =
    silent_made (g.P.Plan.start c.args.book.now.plan) c.args.book.now.log c.args.name
    c.requires.silent

pub returns-in-Some : goal.returns-in-Some
returns-in-Some g c =
    silent_told (g.P.Plan.start c.args.book.now.plan) c.args.book.now.log c.args.name
    c.in-Some.slot c.args.place c.silent_from.result c.requires.silent c.in-Some.ensures
    c.silent_from.ensures.silent c.silent_from.ensures.early
