use Rattle.std.proofs.Common.{arith}
use Rattle.round_lang.proofs.SetLaws.{is-size}
use Rattle.round_lang.proofs.sets.ValueSet.size.Goals as goal

pub returns : goal.returns
returns c = is-size _ (omega arith)
