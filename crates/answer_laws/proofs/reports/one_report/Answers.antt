use Rattle.answer_laws.proofs.OneReport.{one_report}
use Rattle.answer_laws.proofs.reports.one_report.Goals as goal

pub returns : goal.returns
returns c = one_report
