use Rattle.omission_schedules.proofs.OneReport.{one_report}
use Rattle.omission_schedules.proofs.Shown.{schedules_show_rounds}
use Rattle.omission_schedules.proofs.laws.schedules_show_rounds.Goals as goal

pub returns-clause-shown : goal.returns-clause-shown
returns-clause-shown c = schedules_show_rounds

pub returns-clause-one : goal.returns-clause-one
returns-clause-one c = one_report
