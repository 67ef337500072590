use Rattle.round_lang.proofs.SetLaws.{tests_member}
use Rattle.round_lang.proofs.sets.ValueSet.has.Goals as goal

pub returns-then-v-values : goal.returns-then-v-values
returns-then-v-values c = tests_member _ _ _ c.if-v-values.true
