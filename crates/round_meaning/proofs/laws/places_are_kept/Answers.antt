use Rattle.round_meaning.proofs.Places.{places_are_kept}
use Rattle.round_meaning.proofs.laws.places_are_kept.Goals as goal

pub returns : goal.returns
returns c = places_are_kept c.args.program.now c.typed.ensures
