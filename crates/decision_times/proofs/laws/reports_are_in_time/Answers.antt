use Rattle.decision_times.proofs.RowsInTime.{in_steps, in_time}
use Rattle.decision_times.proofs.laws.reports_are_in_time.Goals as goal

pub returns : goal.returns
returns c = record {
  rounds = in_time;
  steps = in_steps;
}
