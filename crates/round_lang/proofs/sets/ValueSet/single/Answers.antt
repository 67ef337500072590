use Rattle.std.proofs.Common.{arith, ◌∙◌}
use Rattle.round_lang.proofs.SetLaws.{is-only, is-only_none, small_pow}
use Rattle.round_lang.proofs.sets.ValueSet.single.Goals as goal

pub returns-then-v-values : goal.returns-then-v-values
returns-then-v-values c = small_pow _ (omega arith) ∙ is-only _ _ c.if-v-values.true

pub returns-else-v-values : goal.returns-else-v-values
returns-else-v-values c = is-only_none _ _ c.if-v-values.false
