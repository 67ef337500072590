-- Schedules whose numbers a text can hold.
use Rattle.std.specs.Prelude.{ℕ, ◌≤◌, All}
use Rattle.round_meaning.specs.declared.setup.Setup.{Setup}
use Rattle.run_events.specs.declared.plan_kind.PlanKind.{PlanKind}
use Rattle.run_events.specs.declared.plan_kind.PlanKind.TheVariants.{Known, Growing}
use Rattle.run_events.specs.Events.{of_event}
use Rattle.run_events.specs.declared.event.Event.{Event}
use Rattle.run_events.specs.declared.name.Name.{Name}
use Rattle.schedule_text.specs.Numbers.{max_number}

-- a number that a line may have
abbrev pub IsSmall : ℕ → Type 0
IsSmall n = n ≤ max_number

-- and so are the numbers of a plan, a message's name and an event
abbrev pub IsSmallPlan : PlanKind → Type 0
IsSmallPlan (Known d) = IsSmall d
IsSmallPlan Growing = Unit {0}

abbrev pub IsSmallName : Name → Type 0
IsSmallName m = IsSmall m.from × IsSmall m.to × IsSmall m.round × IsSmall m.copy

abbrev pub IsSmallEvent : Event → Type 0
IsSmallEvent e = of_event IsSmall IsSmallName e

-- each number of the setup is small
pub record IsSmallSetup (s : Setup) : Type 0 where
  pub nodes : IsSmall s.nodes
  pub faults : IsSmall s.faults
  pub inputs : All IsSmall s.inputs
  pub rounds : IsSmall s.rounds
