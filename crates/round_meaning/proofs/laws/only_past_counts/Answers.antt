use Rattle.std.proofs.Common.{suc, arith}
use Rattle.round_meaning.proofs.RoundLaws.{rounds_same}
use Rattle.round_meaning.proofs.laws.only_past_counts.Goals as goal

pub returns : goal.returns
returns c = λ a o p n i agree within.
    rounds_same a o p n i (λ r k j below kl jl sends. agree (suc r) k j (omega arith)
    (omega arith) kl jl) within
