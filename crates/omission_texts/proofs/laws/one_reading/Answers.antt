use Rattle.omission_texts.specs.Forms.{answer_of}
use Rattle.omission_texts.proofs.Readings.{one_reading, sound}
use Rattle.omission_texts.proofs.laws.one_reading.Goals as goal

pub returns-clause-some : goal.returns-clause-some
returns-clause-some c = λ text. (answer_of text, sound text)

pub returns-clause-one : goal.returns-clause-one
returns-clause-one c = one_reading
