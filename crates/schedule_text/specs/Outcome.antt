-- How what was returned stands to what a text says.
use Rattle.std.specs.Prelude.{◌≡◌, ℕ, ◌+◌, ◌<◌, ◌++◌, List, length, Result, Ok, Err}
use Rattle.std.specs.Borrow.{Bor}
use Rattle.std.specs.Global.{Vec}
use Rattle.std.specs.Str.Lines.{lines}
use Rattle.schedule_text.specs.declared.fault.LineFault.{LineFault}
use Rattle.schedule_text.specs.declared.fault.LineFault.TheVariants as line
use Rattle.schedule_text.specs.declared.fault.ScheduleFault.{ScheduleFault}
use Rattle.schedule_text.specs.declared.fault.ScheduleFault.TheVariants as fault
use Rattle.schedule_text.specs.declared.draft.Draft.{Draft}
use Rattle.schedule_text.specs.declared.draft.Stage.{Stage}
use Rattle.schedule_text.specs.declared.draft.Stage.TheVariants.{Whole}
use Rattle.round_meaning.specs.declared.setup.Setup.{Setup}
use Rattle.run_events.specs.declared.plan_kind.PlanKind.{PlanKind}
use Rattle.schedule_text.specs.declared.kind.Kind.{Kind}
use Rattle.schedule_text.specs.declared.line_reader.LineReader.{LineReader}
use Rattle.schedule_text.specs.declared.kind.Kind.TheVariants as kinds
use Rattle.schedule_text.specs.declared.reading.Schedule.{Schedule}
use Rattle.schedule_text.specs.declared.reading.ThreadSetup.{ThreadSetup}
use Rattle.schedule_text.specs.Readings.{Answer, AnswerOf, IsReadingOf, ReadOf}
use Rattle.schedule_text.specs.Stages.{State, answer_at_end, at_line, from_line, setup_in}

-- the state that a draft shows
abbrev pub state_of : Draft → State
state_of d = record {
  stage = d.stage;
  inputs = d.inputs.items;
  events = d.events;
  stops = d.stops.items;
}

-- only memory excuses other items than these
abbrev pub GivesItems : Result (Vec ℕ) LineFault → Result (List ℕ) LineFault → Type 0
GivesItems (Ok v) said = said ≡ Ok v.items
GivesItems (Err line.NoMemory) said = Unit {0}
GivesItems (Err e) said = said ≡ Err e

-- the draft shows the state that follows, and only memory excuses another answer
abbrev pub GivesState : {A : Type 0} → Result A LineFault → Draft → Result State LineFault → Type 0
GivesState (Ok _) d said = said ≡ Ok (state_of d)
GivesState (Err line.NoMemory) d said = Unit {0}
GivesState (Err e) d said = said ≡ Err e

-- the first line was taken in and the rest is left, so that all lines, and others behind them, say
-- what those of the rest say then; only memory excuses another fault than that of the line
abbrev pub GivesFront : Kind → Result (Bor (List ℕ)) LineFault → State → Draft → List ℕ → Type 0
GivesFront kind (Ok rest) s d text =
    (length rest.now < length text)
    × ((k : ℕ) (behind : List (List ℕ)) → from_line kind k s (lines text ++ behind)
    ≡ from_line kind (k + 1) (state_of d) (lines rest.now ++ behind))
GivesFront kind (Err line.NoMemory) s d text = Unit {0}
GivesFront kind (Err e) s d text =
    (k : ℕ) (behind : List (List ℕ)) → from_line kind k s (lines text ++ behind) ≡ Err (at_line k e)

-- what lines say that come next
abbrev pub said_by : (kind : Kind) → LineReader → List (List ℕ) → AnswerOf kind
said_by kind r ls = from_line kind r.number (state_of r.draft) ls

-- a text's lines were taken in, so that they, and others behind them, say what those behind them
-- say then; only memory excuses another fault than that of a line
abbrev pub GivesLines :
    Kind → Result (Unit {0}) ScheduleFault → (old new : LineReader) → List ℕ → Type 0
GivesLines kind (Ok _) old new text =
    (behind : List (List ℕ)) → said_by kind old (lines text ++ behind) ≡ said_by kind new behind
GivesLines kind (Err fault.NoMemory) old new text = Unit {0}
GivesLines kind (Err e) old new text =
    (behind : List (List ℕ)) → said_by kind old (lines text ++ behind) ≡ Err e

-- the draft shows the state at the end, before the line of this number, and only memory excuses
-- another fault than this
abbrev pub GivesEnd : (kind : Kind) → Result (Draft × ℕ) ScheduleFault → AnswerOf kind → Type 0
GivesEnd kind (Ok d) said = said ≡ answer_at_end kind d.1 d.0.stage (state_of d.0)
GivesEnd kind (Err fault.NoMemory) said = Unit {0}
GivesEnd kind (Err e) said = said ≡ Err e

-- the header at this stage where it is whole, or else the fault at line k
abbrev pub whole_header : ℕ → Stage → List ℕ → Result (Setup × PlanKind) ScheduleFault
whole_header k (Whole z p) vs =
    Ok (setup_in z vs, p)
whole_header k _ vs = Err (fault.BadLine k)

-- what was returned shows this answer, and only memory excuses another
abbrev pub GivesOf :
    {A : Type 0} → (kind : Kind) → (A → ReadOf kind) → Result A ScheduleFault → AnswerOf kind
    → Type 0
GivesOf kind show (Ok a) said = said ≡ Ok (show a)
GivesOf kind show (Err fault.NoMemory) said = Unit {0}
GivesOf kind show (Err e) said = said ≡ Err e

-- what was returned is the text's reading, if there was memory
abbrev pub IsReadOf :
    {A : Type 0} → (kind : Kind) → (A → ReadOf kind) → List ℕ → Result A ScheduleFault → Type 0
IsReadOf kind show text (Ok a) = IsReadingOf kind text (Ok (show a))
IsReadOf kind show text (Err fault.NoMemory) = Unit {0}
IsReadOf kind show text (Err e) = IsReadingOf kind text (Err e)

-- what a schedule says, without where it lies in memory
abbrev pub schedule_read : Schedule → ReadOf kinds.Schedule
schedule_read s = (s.setup, s.plan, s.events)

-- what a thread setup says
abbrev pub threads_read : ThreadSetup → ReadOf kinds.Threads
threads_read s = (s.setup, s.plan, (s.pace, s.stops.items))

-- what a header says
abbrev pub header_read : Setup × PlanKind → ReadOf kinds.Header
header_read h = (h.0, h.1, tt)

-- a schedule was returned that shows this answer, and only memory excuses another
abbrev pub Gives : Result Schedule ScheduleFault → Answer → Type 0
Gives result said = GivesOf kinds.Schedule schedule_read result said

-- a thread setup was returned that shows this answer, and only memory excuses another
abbrev pub GivesThreads : Result ThreadSetup ScheduleFault → AnswerOf kinds.Threads → Type 0
GivesThreads result said = GivesOf kinds.Threads threads_read result said

-- a header was returned that shows this answer, and only memory excuses another
abbrev pub GivesHeader : Result (Setup × PlanKind) ScheduleFault → AnswerOf kinds.Header → Type 0
GivesHeader result said = GivesOf kinds.Header header_read result said

-- what was returned is the text's reading as a schedule, if there was memory
abbrev pub IsRead : List ℕ → Result Schedule ScheduleFault → Type 0
IsRead text result = IsReadOf kinds.Schedule schedule_read text result

-- what was returned is the text's reading as a thread setup, if there was memory
abbrev pub IsThreadsRead : List ℕ → Result ThreadSetup ScheduleFault → Type 0
IsThreadsRead text result = IsReadOf kinds.Threads threads_read text result

-- what was returned is the text's reading as a header, if there was memory
abbrev pub IsHeaderRead : List ℕ → Result (Setup × PlanKind) ScheduleFault → Type 0
IsHeaderRead text result = IsReadOf kinds.Header header_read text result
