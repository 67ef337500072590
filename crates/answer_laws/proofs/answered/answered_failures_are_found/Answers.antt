use Rattle.answer_laws.proofs.Found.{answered_failures_are_found}
use Rattle.answer_laws.proofs.answered.answered_failures_are_found.Goals as goal

pub returns : goal.returns
returns c = answered_failures_are_found
