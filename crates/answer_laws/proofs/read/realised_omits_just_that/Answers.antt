use Rattle.answer_laws.proofs.Realising.{realised_omits_just_that}
use Rattle.answer_laws.proofs.read.realised_omits_just_that.Goals as goal

pub returns : goal.returns
returns c = realised_omits_just_that
