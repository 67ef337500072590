use Rattle.std.proofs.Common.{arith}
use Rattle.round_lang.proofs.SetLaws.{is-union}
use Rattle.round_lang.proofs.sets.ValueSet.union.Goals as goal

pub returns : goal.returns
returns c = is-union _ _ (omega arith) (omega arith)
