use Rattle.answer_laws.proofs.Yes.{open_runs_are_asked}
use Rattle.answer_laws.proofs.asked.open_runs_are_asked.Goals as goal

pub returns : goal.returns
returns c = open_runs_are_asked
