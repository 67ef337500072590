use Rattle.slot_plans.proofs.Rounds.{clear_rounds_last}
use Rattle.slot_plans.proofs.laws.clear_rounds_last.Goals as goal

pub returns : goal.returns
returns c = clear_rounds_last
