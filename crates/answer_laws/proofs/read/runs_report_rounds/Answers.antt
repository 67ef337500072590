use Rattle.answer_laws.proofs.Schedules.{runs_report_rounds}
use Rattle.answer_laws.proofs.read.runs_report_rounds.Goals as goal

pub returns : goal.returns
returns c = runs_report_rounds
