-- Runs of schedules that are read as they are run.
use Rattle.std.specs.Prelude.{◌≡◌, ⊤, ℕ, List, Some}
use Rattle.round_meaning.specs.declared.setup.Setup.{Setup}
use Rattle.schedule_text.specs.Readers.{HasReadHeader, IsBegun, IsRefusedAs, Reading}
use Rattle.schedule_text.specs.Sources.{IsNoSchedule, IsScheduleText}
use Rattle.run_events.specs.declared.plan_kind.PlanKind.{PlanKind}
use Rattle.run_events.specs.declared.event.Event.{Event}
use Rattle.adversary.specs.Driving.{IsUnknownAt}
use Rattle.adversary.specs.declared.fault.ReadFault.{ReadFault}
use Rattle.adversary.specs.declared.fault.ReadFault.TheVariants as read
use Rattle.adversary.specs.declared.fault.RunFault.{RunFault}
use Rattle.adversary.specs.declared.fault.RunFault.TheVariants as fault

-- whatever text the reader was opened on, it is the schedule of these events
abbrev pub IsScheduleOf : Setup → Reading → List Event → Type 0
IsScheduleOf s r events =
    (held : List ℕ) (k : PlanKind) → HasReadHeader held s k r → IsScheduleText held s k events

-- why a schedule's events aren't run: the run doesn't fit, or else it does, and this is the first
-- event that names what the run hasn't; of memory nothing is said
abbrev pub StopsRun : (Fits : Type 0) → Setup → List Event → RunFault → Type 0
StopsRun Fits s events fault.NoMemory = ⊤
StopsRun Fits s events fault.BadSetup = ¬ Fits
StopsRun Fits s events f = Fits × IsUnknownAt s events f

-- why the text that a reader was opened on isn't run: it is no schedule, or else it is one, and its
-- events aren't run
abbrev pub IsNotRead : (Fits : Type 0) → Setup → Reading → ReadFault → Type 0
IsNotRead Fits s r (read.Text e) =
    (held : List ℕ) (k : PlanKind) → HasReadHeader held s k r → IsNoSchedule (Some held) e
IsNotRead Fits s r (read.Run fault.NoMemory) = ⊤
IsNotRead Fits s r (read.Run f) =
    (events : List Event) × StopsRun Fits s events f × IsScheduleOf s r events

-- a run was refused, and either the text that the reader goes on with is a schedule, or its own
-- fault is told
abbrev pub IsRefusedAfter : Reading → RunFault → ReadFault → Type 0
IsRefusedAfter r f (read.Text e) = IsRefusedAs r e
IsRefusedAfter r f (read.Run e) = (e ≡ f) × IsBegun r
