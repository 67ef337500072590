use Rattle.round_check.proofs.OneMeanings.{names_one}
use Rattle.round_check.proofs.laws.names_have_one_meaning.Goals as goal

pub returns : goal.returns
returns c = names_one c.args.program.now c.typed.ensures
