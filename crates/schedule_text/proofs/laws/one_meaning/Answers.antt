use Rattle.schedule_text.proofs.OneReading.{one_meaning}
use Rattle.schedule_text.proofs.laws.one_meaning.Goals as goal

pub returns : goal.returns
returns c = one_meaning
