use Rattle.omission_explainer.proofs.Members.{spells_nothing}
use Rattle.omission_explainer.proofs.spelt_set.SpeltSet.new.Goals as goal

pub invariant_of-result : goal.invariant_of-result
invariant_of-result c = spells_nothing _ _ c.new.ensures c.empty.ensures
