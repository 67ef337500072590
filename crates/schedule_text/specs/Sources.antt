-- What a schedule's reading from a source answers.
use Rattle.std.specs.Prelude.{◌≡◌, ⊤, ℕ, List, Option, None, Some, IfSome, Err, ◌++◌, drop, take}
use Rattle.schedule_text.specs.Bytes.{IsLongText, IsNoText, IsText}
use Rattle.schedule_text.specs.Readings.{IsReadingOf}
use Rattle.schedule_text.specs.Texts.{SaysOf, max_text}
use Rattle.schedule_text.specs.declared.fault.ScheduleFault.TheVariants as schedule
use Rattle.schedule_text.specs.declared.kind.Kind.TheVariants as kinds
use Rattle.round_meaning.specs.declared.setup.Setup.{Setup}
use Rattle.run_events.specs.declared.plan_kind.PlanKind.{PlanKind}
use Rattle.run_events.specs.declared.event.Event.{Event}
use Rattle.schedule_text.specs.declared.source.SourceFault.{SourceFault}
use Rattle.schedule_text.specs.declared.source.SourceFault.TheVariants as source
use Rattle.schedule_text.specs.declared.source.TextFault.{TextFault}
use Rattle.schedule_text.specs.declared.source.TextFault.TheVariants as fault

-- the next bytes of those that were left went to the end of a list: so many, or all where these
-- are fewer
abbrev pub Adds : ℕ → (left : List ℕ) → (after : Option (List ℕ)) → (old new : List ℕ) → Type 0
Adds most left after old new = (new ≡ old ++ take most left) × (after ≡ Some (drop most left))

-- the fault of a source that gives no bytes
abbrev pub fault_of : SourceFault → TextFault
fault_of source.Failed = fault.Failed
fault_of source.NoMemory = fault.Schedule schedule.NoMemory

-- the bytes are a text, and that is the schedule of this setup and plan with these events
abbrev pub IsScheduleText : List ℕ → Setup → PlanKind → List Event → Type 0
IsScheduleText held s k events =
    IsText max_text held × SaysOf kinds.Schedule held s k events

-- why the bytes that were left in a source are no schedule, where it says what they were: no text,
-- one that is too long, or the first line at fault; of memory nothing is said
abbrev pub IsNoSchedule : Option (List ℕ) → TextFault → Type 0
IsNoSchedule left fault.Failed = left ≡ None
IsNoSchedule left fault.NotUtf8 = IfSome left (IsNoText max_text)
IsNoSchedule left (fault.Schedule schedule.TooLong) = IfSome left (IsLongText max_text)
IsNoSchedule left (fault.Schedule schedule.NoMemory) = ⊤
IsNoSchedule left (fault.Schedule e) =
    IfSome left (λ held. IsText max_text held × IsReadingOf kinds.Schedule held (Err e))
