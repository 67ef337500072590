use Rattle.answer_laws.proofs.PartsTogether.{parts_tell_the_whole}
use Rattle.answer_laws.proofs.parts.parts_tell_the_whole.Goals as goal

pub returns : goal.returns
returns c = parts_tell_the_whole c.parts_are_all.ensures
