use Rattle.omission_explainer.proofs.Members.{spells_anew}
use Rattle.omission_explainer.proofs.spelt_set.SpeltSet.spell.Goals as goal

pub invariant_of-self : goal.invariant_of-self
invariant_of-self c =
    spells_anew _ _ _ c.clear.ensures c.push_members.ensures.text c.push_members.ensures.short
