-- How far a schedule's text is read. Callers need to know no more than which of these hold.
use Rattle.std.specs.Prelude.{◌≡◌, ◌+◌, ◌-◌, ◌≤◌, ◌++◌, ⊤, ℕ, Bool, true, false, List, Option}
use Rattle.std.specs.Prelude.{None, Some, Ok, Err, IfOk, length, if◌then◌else◌}
use Rattle.std.specs.Str.{IsUtf8}
use Rattle.std.specs.Str.Lines.{lines}
use Rattle.round_meaning.specs.declared.setup.Setup.{Setup}
use Rattle.schedule_text.specs.Intakes.{header_in, said}
use Rattle.schedule_text.specs.Readings.{Answer}
use Rattle.schedule_text.specs.Sources.{IsNoSchedule, IsScheduleText}
use Rattle.schedule_text.specs.Stages.{from_line, start}
use Rattle.schedule_text.specs.Texts.{max_text}
use Rattle.schedule_text.specs.declared.intake.Intake.{Intake}
use Rattle.schedule_text.specs.declared.kind.Kind.TheVariants as kinds
use Rattle.schedule_text.specs.declared.source.TextFault.{TextFault}
use Rattle.run_events.specs.declared.plan_kind.PlanKind.{PlanKind}
use Rattle.run_events.specs.declared.event.Event.{Event}

-- a reader: what is left in its source, if that says so, what it took in, how many bytes these
-- were, and whether the text has ended
pub record Reading : Type 0 where
  pub left : Option (List ℕ)
  pub intake : Intake
  pub count : ℕ
  pub is_ended : Bool

-- while the text goes on, it isn't too long yet, nor are its lines too many to be counted
abbrev pub IsSized : Intake → ℕ → Bool → Type 0
IsSized i count ended = ended ≡ false
    → (i.reader.number + length i.bytes.items ≤ count + 1) × (count ≤ max_text)

-- how often it can be read on at most
abbrev pub ahead : Reading → ℕ
ahead r = if r.is_ended then 0 else (max_text + 1 - r.count)

-- an answer with these events before its own
abbrev pub behind : List Event → Answer → Answer
behind before (Ok x) = Ok (x.0, x.1, before ++ x.2)
behind before (Err e) = Err e

-- the setup and the plan are those of a header, if there is one
abbrev pub IsOf : Option (Setup × PlanKind) → Setup → PlanKind → Type 0
IsOf None s k = ⊤
IsOf (Some h) s k = (s ≡ h.0) × (k ≡ h.1)

-- the text goes on: these bytes are its lines that were taken in, then the bytes at hand, and then
-- those in the source; and they say what the lines that come next say, behind these events, for
-- this header
pub record IsAhead (held : List ℕ) (header : Option (Setup × PlanKind)) (before : List Event)
    (r : Reading) : Type 0 where
  pub done : List ℕ
  pub rest : List ℕ
  pub left-is : r.left ≡ Some rest
  pub parts : held ≡ done ++ (r.intake.bytes.items ++ rest)
  pub utf8 : IsUtf8 done
  pub counted : length done + length r.intake.bytes.items ≡ r.count
  pub same : (t : List ℕ) → from_line kinds.Schedule 1 start (lines (done ++ t))
      ≡ behind before (said r.intake (lines t))
  pub headed : (t : List ℕ)
      → IfOk (said r.intake (lines t)) (λ (x : Setup × PlanKind × List Event). IsOf header x.0 x.1)

-- the events that were read last
abbrev pub last_events : Reading → List Event
last_events r = r.intake.reader.draft.events

-- so much of these bytes was read: a header of this setup and plan, and these events behind it
pub record HasRead (held : List ℕ) (s : Setup) (k : PlanKind) (events : List Event) (r : Reading) :
    Type 0 where
  pub before : List Event
  pub parts : events ≡ before ++ last_events r
  pub ahead : r.is_ended ≡ false → IsAhead held (Some (s, k)) before r
  pub whole : r.is_ended ≡ true → IsScheduleText held s k events

-- the header was read, and no events but those that were read last
abbrev pub HasReadHeader : List ℕ → Setup → PlanKind → Reading → Type 0
HasReadHeader held s k r = HasRead held s k (last_events r) r

-- whatever was read before, the events that were read last come behind it
abbrev pub AdvancesTo : (old new : Reading) → Type 0
AdvancesTo old new =
    (held : List ℕ) (s : Setup) (k : PlanKind) (events : List Event)
    → HasRead held s k events old → HasRead held s k (events ++ last_events new) new

-- whatever was read is the whole schedule
abbrev pub IsAll : Reading → Type 0
IsAll r =
    (held : List ℕ) (s : Setup) (k : PlanKind) (events : List Event)
    → HasRead held s k events r → IsScheduleText held s k events

-- there are events such that whatever was read, they are the rest of the schedule
pub record IsBegun (r : Reading) : Type 0 where
  pub more : List Event
  pub whole : (held : List ℕ) (s : Setup) (k : PlanKind) (events : List Event)
      → HasRead held s k events r → IsScheduleText held s k (events ++ more)

-- whatever was read, the bytes are no schedule, and this is why
abbrev pub IsRefusedAs : Reading → TextFault → Type 0
IsRefusedAs r fault =
    (held : List ℕ) (s : Setup) (k : PlanKind) (events : List Event)
    → HasRead held s k events r → IsNoSchedule (Some held) fault

-- the same of a text whose header may not be read yet
abbrev pub IsRefusedAhead : Reading → TextFault → Type 0
IsRefusedAhead r fault =
    (held : List ℕ) (o : Option (Setup × PlanKind)) (before : List Event)
    → IsAhead held o before r → IsNoSchedule (Some held) fault

-- the text goes on as it did
abbrev pub GoesOn : (old new : Reading) → Type 0
GoesOn old new =
    (held : List ℕ) (o : Option (Setup × PlanKind)) (before : List Event)
    → IsAhead held o before old → IsAhead held o before new

-- the text ended: it is the schedule of the header that was read
pub record EndsAs (old new : Reading) : Type 0 where
  pub header : Setup × PlanKind
  pub whole : header_in new.intake.reader.draft ≡ Some header
  pub ended : (held : List ℕ) (o : Option (Setup × PlanKind)) (before : List Event)
      → IsAhead held o before old
      → IsOf o header.0 header.1
      × IsScheduleText held header.0 header.1 (before ++ last_events new)
