use Rattle.answer_laws.proofs.Yes.{clear_runs_are_asked}
use Rattle.answer_laws.proofs.asked.clear_runs_are_asked.Goals as goal

pub returns : goal.returns
returns c = clear_runs_are_asked
