use Rattle.answer_laws.proofs.Crashed.{stopped_runs_are_asked}
use Rattle.answer_laws.proofs.asked.stopped_runs_are_asked.Goals as goal

pub returns : goal.returns
returns c = stopped_runs_are_asked
