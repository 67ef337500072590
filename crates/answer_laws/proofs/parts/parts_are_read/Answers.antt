use Rattle.answer_laws.proofs.PartsRead.{parts_are_read}
use Rattle.answer_laws.proofs.parts.parts_are_read.Goals as goal

pub returns : goal.returns
returns c = parts_are_read
