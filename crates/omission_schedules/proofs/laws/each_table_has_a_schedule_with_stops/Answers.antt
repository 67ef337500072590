use Rattle.omission_schedules.proofs.Realised.{each_stopped, each_stopped_placed, each_stops}
use Rattle.omission_schedules.proofs.laws.each_table_has_a_schedule_with_stops.Goals as goal

pub returns-clause-events : goal.returns-clause-events
returns-clause-events c = each_stopped

pub returns-clause-places : goal.returns-clause-places
returns-clause-places c = each_stopped_placed

pub returns-clause-stops : goal.returns-clause-stops
returns-clause-stops c = each_stops
