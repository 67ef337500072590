use Rattle.frame_format.proofs.Spelled.{one_spelling_holds}
use Rattle.frame_format.proofs.laws.one_spelling.Goals as goal

pub returns : goal.returns
returns c = one_spelling_holds _ c.lawful.ensures
