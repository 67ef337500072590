use Rattle.slot_plans.proofs.Slots.{one_slot}
use Rattle.slot_plans.proofs.laws.one_slot.Goals as goal

pub returns : goal.returns
returns c = one_slot
