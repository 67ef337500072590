use Rattle.answer_laws.proofs.Yes.{termination_is_of_asked_reports, yes_in_all_rounds}
use Rattle.answer_laws.proofs.Yes.{yes_is_of_asked_reports}
use Rattle.answer_laws.proofs.asked.yes_is_of_asked_reports.Goals as goal

pub returns-clause-yes : goal.returns-clause-yes
returns-clause-yes c = yes_is_of_asked_reports

pub returns-clause-all_rounds : goal.returns-clause-all_rounds
returns-clause-all_rounds c = yes_in_all_rounds

pub returns-clause-termination : goal.returns-clause-termination
returns-clause-termination c = termination_is_of_asked_reports
