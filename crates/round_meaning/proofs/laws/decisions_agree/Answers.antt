use Rattle.round_meaning.proofs.Consensus.{algorithm_1_agrees, algorithm_1_is_valid}
use Rattle.round_meaning.proofs.laws.decisions_agree.Goals as goal

pub returns-clause-agreement : goal.returns-clause-agreement
returns-clause-agreement c = algorithm_1_agrees

pub returns-clause-validity : goal.returns-clause-validity
returns-clause-validity c = algorithm_1_is_valid
