-- What is taken in of a text's lines, which proofs pass through.
use Rattle.std.specs.Prelude.{◌≡◌, ◌++◌, ◌⊎◌, ⊤, ℕ, List, [], ◌∷◌, Option, None, Some}
use Rattle.std.specs.Prelude.{Result, Ok, Err}
use Rattle.std.specs.Str.{IsUtf8}
use Rattle.std.specs.Str.Lines.{lines}
use Rattle.schedule_text.specs.Bytes.{BeginsUtf8}
use Rattle.round_meaning.specs.declared.setup.Setup.{Setup}
use Rattle.schedule_text.specs.Outcome.{said_by, state_of}
use Rattle.schedule_text.specs.Readings.{Answer}
use Rattle.schedule_text.specs.Stages.{setup_in, start}
use Rattle.schedule_text.specs.declared.draft.Draft.{Draft}
use Rattle.schedule_text.specs.declared.draft.Stage.{Stage}
use Rattle.schedule_text.specs.declared.draft.Stage.TheVariants.{Whole}
use Rattle.schedule_text.specs.declared.fault.ScheduleFault.{ScheduleFault}
use Rattle.schedule_text.specs.declared.fault.ScheduleFault.TheVariants as schedule
use Rattle.schedule_text.specs.declared.kind.Kind.TheVariants as kinds
use Rattle.schedule_text.specs.declared.line_reader.LineReader.{LineReader}
use Rattle.schedule_text.specs.declared.intake.Intake.{Intake}
use Rattle.schedule_text.specs.declared.source.TextFault.{TextFault}
use Rattle.schedule_text.specs.declared.source.TextFault.TheVariants as fault
use Rattle.run_events.specs.declared.plan_kind.PlanKind.{PlanKind}

-- the bytes are none, or LF ends them
abbrev pub EndsLine : List ℕ → Type 0
EndsLine bytes = (bytes ≡ []) ⊎ ((line : List ℕ) × (bytes ≡ line ++ 10 ∷ []))

-- what the lines that come next say, if no line is at fault yet; else its fault
abbrev pub says : LineReader → Option ScheduleFault → List (List ℕ) → Answer
says reader None ls = said_by kinds.Schedule reader ls
says reader (Some e) ls = Err e

abbrev pub said : Intake → List (List ℕ) → Answer
said i ls = says i.reader i.fault ls

-- nothing is read yet
pub record IsFresh (i : Intake) : Type 0 where
  pub number : i.reader.number ≡ 1
  pub state : state_of i.reader.draft ≡ start
  pub fault : i.fault ≡ None
  pub bytes : i.bytes.items ≡ []

-- whole lines in UTF-8 were taken in from the front of the bytes
pub record TakesLines (old new : Intake) : Type 0 where
  pub front : List ℕ
  pub parts : old.bytes.items ≡ front ++ new.bytes.items
  pub utf8 : IsUtf8 front
  pub same : (t : List ℕ) → said old (lines (front ++ t)) ≡ said new (lines t)

-- a line reader without its events
abbrev pub without_events : LineReader → LineReader
without_events r = record r { draft = record r.draft { events = [] } }

-- its events were taken away, and all else is as it was
abbrev pub HasNoEvents : (old new : Intake) → Type 0
HasNoEvents old new = new ≡ record old { reader = without_events old.reader }

-- the setup and the plan of the header, if it is whole
abbrev pub header_at : Stage → List ℕ → Option (Setup × PlanKind)
header_at (Whole z p) vs =
    Some (setup_in z vs, p)
header_at _ vs = None

abbrev pub header_in : Draft → Option (Setup × PlanKind)
header_in d = header_at d.stage d.inputs.items

-- what was read shows what the last lines say, where the bytes are UTF-8, and only memory excuses
-- another answer
abbrev pub EndsIntake : Result (Unit {0}) TextFault → List ℕ → Answer → Draft → Type 0
EndsIntake (Ok _) bytes said d =
    IsUtf8 bytes
    × ((h : Setup × PlanKind) × (header_in d ≡ Some h) × (said ≡ Ok (h.0, h.1, d.events)))
EndsIntake (Err fault.Failed) bytes said d = ⊥
EndsIntake (Err fault.NotUtf8) bytes said d = ¬ (IsUtf8 bytes)
EndsIntake (Err (fault.Schedule schedule.NoMemory)) bytes said d = ⊤
EndsIntake (Err (fault.Schedule e)) bytes said d = IsUtf8 bytes × (said ≡ Err e)

-- the fault of a text that is too long, whose first bytes end with these
abbrev pub IsLongFault : List ℕ → TextFault → Type 0
IsLongFault bytes (fault.Schedule schedule.TooLong) = BeginsUtf8 bytes
IsLongFault bytes fault.NotUtf8 = ¬ (BeginsUtf8 bytes)
IsLongFault bytes _ = ⊥
