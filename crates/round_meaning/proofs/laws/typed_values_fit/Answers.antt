use Rattle.round_meaning.proofs.Sound.{value_typed}
use Rattle.round_meaning.proofs.laws.typed_values_fit.Goals as goal

pub returns : goal.returns
returns c = value_typed
