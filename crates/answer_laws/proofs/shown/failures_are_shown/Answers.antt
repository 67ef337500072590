use Rattle.answer_laws.proofs.Failures.{failures_are_shown}
use Rattle.answer_laws.proofs.shown.failures_are_shown.Goals as goal

pub returns : goal.returns
returns c = failures_are_shown
