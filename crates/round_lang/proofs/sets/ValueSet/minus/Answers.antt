use Rattle.std.proofs.Common.{arith}
use Rattle.round_lang.proofs.SetLaws.{is-minus}
use Rattle.round_lang.proofs.sets.ValueSet.minus.Goals as goal

pub returns : goal.returns
returns c = is-minus _ _ (omega arith) (omega arith)
