use Rattle.std.proofs.Common.{arith}
use Rattle.round_lang.proofs.SetLaws.{is-least, is-least_none}
use Rattle.round_lang.proofs.sets.ValueSet.least.Goals as goal

pub returns-then-self-eq0 : goal.returns-then-self-eq0
returns-then-self-eq0 c = rw c.if-self-eq0.true (is-least_none _)

pub returns-else-self-eq0 : goal.returns-else-self-eq0
returns-else-self-eq0 c = is-least _ _ (omega arith) (omega arith)
