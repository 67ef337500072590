use Rattle.std.proofs.Common.{arith}
use Rattle.round_lang.proofs.SetLaws.{is-inter}
use Rattle.round_lang.proofs.sets.ValueSet.inter.Goals as goal

pub returns : goal.returns
returns c = is-inter _ _ (omega arith)
