use Rattle.round_meaning.proofs.Consensus.{decisions_are_locked}
use Rattle.round_meaning.proofs.laws.decisions_are_locked.Goals as goal

pub returns-clause-holders : goal.returns-clause-holders
returns-clause-holders c k s omits h i r d v hi a =
    (decisions_are_locked k s omits h i r d v hi a).0

pub returns-clause-others : goal.returns-clause-others
returns-clause-others c k s omits h i r d v hi a = (decisions_are_locked k s omits h i r d v hi a).1
