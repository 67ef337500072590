use Rattle.schedule_text.proofs.OneReading.{one_reading}
use Rattle.schedule_text.specs.Stages.{answer_of}
use Rattle.schedule_text.proofs.Sound.{sound}
use Rattle.schedule_text.proofs.laws.one_reading.Goals as goal

pub returns-clause-some : goal.returns-clause-some
returns-clause-some c = λ kind text. (answer_of kind text, sound kind text)

pub returns-clause-one : goal.returns-clause-one
returns-clause-one c = one_reading
