-- What reading a text of a kind answers: what it says, or the first line at fault.
use Rattle.std.specs.Prelude.{◌≡◌, ℕ, ◌+◌, ◌<◌, ◌≤◌, ◌⊎◌, true, false, List, [], length, take}
use Rattle.std.specs.Prelude.{filter, slice_index_or, Result, Ok, Err}
use Rattle.std.specs.Str.Lines.{lines}
use Rattle.round_meaning.specs.declared.setup.Setup.{Setup}
use Rattle.run_events.specs.declared.plan_kind.PlanKind.{PlanKind}
use Rattle.schedule_text.specs.declared.fault.ScheduleFault.{ScheduleFault}
use Rattle.schedule_text.specs.declared.fault.ScheduleFault.TheVariants as fault
use Rattle.schedule_text.specs.declared.kind.Kind.{Kind}
use Rattle.schedule_text.specs.declared.kind.Kind.TheVariants.{Schedule, Threads, Header}
use Rattle.schedule_text.specs.Lines.{Line, nodes, faults, inputs, rounds, plan, event, pace, stop}
use Rattle.schedule_text.specs.Lines.{HasForm, HasSmallNumbers}
use Rattle.schedule_text.specs.Texts.{SaysOf, Tail, counts, max_text}

-- the line at index k
abbrev pub line_at : List (List ℕ) → ℕ → List ℕ
line_at ls k = slice_index_or ls k []

-- how many lines before index k count
abbrev pub place_of : List (List ℕ) → ℕ → ℕ
place_of ls k = length (filter counts (take k ls))

-- which of the lines that count may say this, by how many do before it: the header's five lines
-- come first, in order, and then in a schedule events, in a thread setup the pace and then stops
abbrev pub MayStandAt : Kind → ℕ → Line → Type 0
MayStandAt kind place (nodes n) = place ≡ 0
MayStandAt kind place (faults t) = place ≡ 1
MayStandAt kind place (inputs vs) = place ≡ 2
MayStandAt kind place (rounds r) = place ≡ 3
MayStandAt kind place (plan p) = place ≡ 4
MayStandAt kind place (event e) = (kind ≡ Schedule) × (5 ≤ place)
MayStandAt kind place (pace p) = (kind ≡ Threads) × (place ≡ 5)
MayStandAt kind place (stop s) = (kind ≡ Threads) × (6 ≤ place)

-- how many lines that count a text has at least: those of the header, and a thread setup's pace
abbrev pub fewest_lines : Kind → ℕ
fewest_lines Schedule = 5
fewest_lines Threads = 6
fewest_lines Header = 5

-- the line at index k has the form of one that may stand there
pub record IsFormed (kind : Kind) (ls : List (List ℕ)) (k : ℕ) (said : Line) : Type 0 where
  pub form : HasForm (line_at ls k) said
  pub place : MayStandAt kind (place_of ls k) said

-- nothing is wrong at index k: the line doesn't count, or it says what may stand there
abbrev pub IsGood : Kind → List (List ℕ) → ℕ → Type 0
IsGood kind ls k =
    (counts (line_at ls k) ≡ false)
    ⊎ ((said : Line) × IsFormed kind ls k said × HasSmallNumbers said)

-- there is a line there, and it counts
abbrev pub IsCounted : List (List ℕ) → ℕ → Type 0
IsCounted ls k = (k < length ls) × (counts (line_at ls k) ≡ true)

-- a line has no form of one that may stand there
abbrev pub HasNoForm : Kind → List (List ℕ) → ℕ → Type 0
HasNoForm kind ls k = IsCounted ls k × ((said : Line) → ¬ IsFormed kind ls k said)

-- the text ends there, with too few lines
abbrev pub EndsEarly : Kind → List (List ℕ) → ℕ → Type 0
EndsEarly kind ls k = (k ≡ length ls) × (place_of ls k < fewest_lines kind)

-- what may be a bad line
abbrev pub IsBad : Kind → List (List ℕ) → ℕ → Type 0
IsBad kind ls k = HasNoForm kind ls k ⊎ EndsEarly kind ls k

-- a line has a form of one that may stand there, but with a number above the largest
abbrev pub IsLarge : Kind → List (List ℕ) → ℕ → Type 0
IsLarge kind ls k =
    IsCounted ls k × ((said : Line) × IsFormed kind ls k said × ¬ HasSmallNumbers said)

-- line n, counted from 1, is the first with which something is wrong, and this is
pub record IsFirst
    (Wrong : Kind → List (List ℕ) → ℕ → Type 0) (kind : Kind) (ls : List (List ℕ)) (n : ℕ) :
    Type 0 where
  pub index : ℕ
  pub number : n ≡ index + 1
  pub before : (j : ℕ) → j < index → IsGood kind ls j
  pub wrong : Wrong kind ls index

-- what a text of this kind says, without where it lies in memory
abbrev pub ReadOf : Kind → Type 0
ReadOf kind = Setup × PlanKind × Tail kind

-- what a text of this kind says, or a fault
abbrev pub AnswerOf : Kind → Type 0
AnswerOf kind = Result (ReadOf kind) ScheduleFault

-- the answer of reading a text as one of this kind, if there is memory: what it says, TooLong
-- if it is that, or else the first line at fault, with its number
abbrev pub IsReadingOf : (kind : Kind) → List ℕ → AnswerOf kind → Type 0
IsReadingOf kind text (Ok r) = SaysOf kind text r.0 r.1 r.2
IsReadingOf kind text (Err fault.TooLong) = max_text < length text
IsReadingOf kind text (Err (fault.BadLine n)) =
    (length text ≤ max_text) × IsFirst IsBad kind (lines text) n
IsReadingOf kind text (Err (fault.NumberTooLarge n)) =
    (length text ≤ max_text) × IsFirst IsLarge kind (lines text) n
IsReadingOf kind text (Err fault.NoMemory) = ⊥

-- a schedule or a fault
abbrev pub Answer : Type 0
Answer = AnswerOf Schedule

-- the answer of reading a text as a schedule: the schedule that it says, TooLong where it is that,
-- or else the first line at fault, with its number
abbrev pub IsReading : List ℕ → Answer → Type 0
IsReading text answer = IsReadingOf Schedule text answer

-- each text has a reading of each kind
abbrev pub TextsHaveReadings : Type 0
TextsHaveReadings =
    (kind : Kind) (text : List ℕ) → (answer : AnswerOf kind) × IsReadingOf kind text answer

-- no text has two readings of one kind
abbrev pub TextsHaveOneReading : Type 0
TextsHaveOneReading =
    (kind : Kind) (text : List ℕ) (a b : AnswerOf kind)
    → IsReadingOf kind text a → IsReadingOf kind text b → a ≡ b
