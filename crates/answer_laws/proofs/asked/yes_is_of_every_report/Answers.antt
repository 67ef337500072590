use Rattle.answer_laws.proofs.Yes.{every_report_in_all_rounds, yes_is_of_every_report}
use Rattle.answer_laws.proofs.asked.yes_is_of_every_report.Goals as goal

pub returns-clause-yes : goal.returns-clause-yes
returns-clause-yes c = yes_is_of_every_report

pub returns-clause-all_rounds : goal.returns-clause-all_rounds
returns-clause-all_rounds c = every_report_in_all_rounds
