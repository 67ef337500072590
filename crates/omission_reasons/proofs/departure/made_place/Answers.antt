use Rattle.std.proofs.lemmas.Bool.{both_ways}
use Rattle.omission_reasons.proofs.Idling.{marked_made}
use Rattle.omission_reasons.proofs.departure.made_place.Goals as goal

pub making-requires-clause-made : goal.making-requires-clause-made
making-requires-clause-made g c =
    marked_made (g.P.Plan.start c.args.book.now.plan) c.args.book.now.log c.args.name
    (λ e. both_ways c.is_unsent.result c.if-is_unsent.false (c.is_unsent.ensures.1 e))
