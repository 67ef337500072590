use Rattle.omission_schedules.proofs.Realised.{each_placed, each_table}
use Rattle.omission_schedules.proofs.laws.each_table_has_a_schedule.Goals as goal

pub returns-clause-events : goal.returns-clause-events
returns-clause-events c = each_table

pub returns-clause-places : goal.returns-clause-places
returns-clause-places c = each_placed
