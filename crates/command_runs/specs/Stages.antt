-- What the parts of a command answer, which proofs pass through.
use Rattle.std.specs.Borrow.{Bor}
use Rattle.std.specs.Prelude.{◌≡◌, ◌≢◌, ◌<◌, ◌≤◌, ◌⊎◌, ◌++◌, ◌∷◌, ⊤, ℕ, IfSome, List, []}
use Rattle.std.specs.Prelude.{Option, Some, length}
use Rattle.std.specs.Io.KnownBytes.{Appends}
use Rattle.adversary.specs.Reading.{IsScheduleOf}
use Rattle.adversary.specs.declared.fault.RunFault.TheVariants as run
use Rattle.command_runs.specs.InChanges.{Terms}
use Rattle.command_runs.specs.Refused.{Fault, IsNoOffer}
use Rattle.command_runs.specs.Refused.{IsOpened, IsUnanswered, IsUnexplored}
use Rattle.command_runs.specs.Refused.{IsUnmade, IsUnthreaded, IsUntraced}
use Rattle.command_runs.specs.Refused.{StartsThreads, fault_in, of_text}
use Rattle.command_runs.specs.Explained.{IsReportOf}
use Rattle.command_runs.specs.Served.{Answered, AnswersRun, IsHeader, IsProgramOf, IsShownOf}
use Rattle.command_runs.specs.Served.{IsThreadSetup, MakesLockstep, NamesColumns, SaysAnswer}
use Rattle.command_runs.specs.Texts.{Files}
use Rattle.command_runs.specs.Within.{IsExplored, IsFitRun}
use Rattle.schedule_text.specs.Bytes.{IsLongText, IsNoText}
use Rattle.command_runs.specs.declared.asking.Answer.{Answer as RunAnswer}
use Rattle.command_runs.specs.declared.asking.Answer.TheVariants as answer
use Rattle.command_runs.specs.declared.asking.Question.{Question}
use Rattle.command_runs.specs.declared.asking.Question.TheVariants as question
use Rattle.command_runs.specs.declared.part_refusal.PartRefusal.TheVariants as part
use Rattle.command_runs.specs.declared.refusal.Refusal.{Refusal}
use Rattle.command_runs.specs.declared.refusal.Refusal.TheVariants as refusal
use Rattle.command_runs.specs.declared.sources.Opened.{Opened}
use Rattle.command_runs.specs.declared.sources.Opened.TheVariants as opened
use Rattle.command_words.specs.declared.drawing.Drawing.{Drawing}
use Rattle.command_words.specs.declared.exploring.Exploring.{Exploring}
use Rattle.command_words.specs.declared.forms.Form.{Form}
use Rattle.command_words.specs.declared.values.Source.{Source}
use Rattle.node_threads.specs.Ends.{IsFitForThreads}
use Rattle.omission_explainer.specs.declared.report.Report.{Report}
use Rattle.part_answers.specs.Parts.{IsWellFormed, part_text}
use Rattle.part_answers.specs.Wholes.{IsFaultOf}
use Rattle.part_answers.specs.declared.part.PartAnswers.{PartAnswers}
use Rattle.round_check.specs.Causes.{fault_of}
use Rattle.round_lang.specs.Limits.{max_text}
use Rattle.round_lang.specs.Source.{IsSource}
use Rattle.round_lang.specs.Syntax.{ProgramTree}
use Rattle.round_lang.specs.declared.fault.LangFault.TheVariants as lang
use Rattle.round_meaning.specs.declared.setup.Setup.{Setup}
use Rattle.schedule_text.specs.Readers.{HasReadHeader, IsBegun, IsRefusedAs, Reading}
use Rattle.schedule_text.specs.Sources.{IsNoSchedule}
use Rattle.schedule_text.specs.Texts.{max_text as max_schedule}
use Rattle.schedule_text.specs.declared.kind.Kind.{Kind}
use Rattle.run_events.specs.declared.plan_kind.PlanKind.{PlanKind}
use Rattle.schedule_text.specs.declared.fault.ScheduleFault.TheVariants as schedule
use Rattle.schedule_text.specs.declared.reading.ThreadSetup.{ThreadSetup}
use Rattle.schedule_text.specs.declared.source.TextFault.{TextFault}
use Rattle.run_events.specs.declared.event.Event.{Event}
use Rattle.slot_plans.specs.Named.{IsPlan}

-- why a text in UTF-8 has no program
abbrev pub IsNoProgramOf : List ℕ → Refusal → Type 0
IsNoProgramOf held (refusal.Source lang.TooLong) = max_text < length held
IsNoProgramOf held (refusal.Source lang.NoMemory) = ⊥
IsNoProgramOf held (refusal.Source fault) = (p : ProgramTree) → ¬ (IsSource held p)
IsNoProgramOf held (refusal.Check fault) =
    (p : ProgramTree) × IsSource held p × (fault_of p ≡ Some fault)
IsNoProgramOf held refusal.NoMemory = ⊤
IsNoProgramOf held _ = ⊥

-- why a text in UTF-8 isn't read, whose first line at fault is told so
abbrev pub IsUnread : Fault → List ℕ → Refusal → Type 0
IsUnread HasFault held (refusal.Schedule schedule.TooLong) = max_schedule < length held
IsUnread HasFault held (refusal.Schedule schedule.NoMemory) = ⊥
IsUnread HasFault held (refusal.Schedule fault) = HasFault held fault
IsUnread HasFault held refusal.NoMemory = ⊤
IsUnread HasFault held _ = ⊥

-- why a text in UTF-8 is none of this kind
abbrev pub IsNoReadOf : Kind → List ℕ → Refusal → Type 0
IsNoReadOf kind held r = IsUnread (fault_in kind) held r

-- why an opened source has no program
abbrev pub IsHeldBack : Opened → (nodes faults : ℕ) → Refusal → Type 0
IsHeldBack (opened.File p text) n t r = ⊥
IsHeldBack (opened.Library name values) n t r = IsNoOffer name.now values n t r

-- the nodes that a question takes as correct
abbrev pub listed_by : Question → List ℕ
listed_by (question.Report told) = []
listed_by (question.Verdict terms f) = terms.correct.now

-- the text that a reader goes on with is no schedule, and this refusal tells why
abbrev pub IsBadSchedule : Setup → Reading → Refusal → Type 0
IsBadSchedule s r refused =
    (e : TextFault) × (refused ≡ of_text e)
    × ((held : List ℕ) (k : PlanKind) → HasReadHeader held s k r → IsNoSchedule (Some held) e)

-- why nothing comes of the schedule that a reader was opened on: its text is none, or it is one,
-- and its events have this cause
abbrev pub StopsSchedule : (List Event → Refusal → Type 0) → Setup → Reading → Refusal → Type 0
StopsSchedule Cause s r refused =
    IsBadSchedule s r refused
    ⊎ ((events : List Event) × IsScheduleOf s r events × Cause events refused)

-- a refusal is told where the text that a reader goes on with is a schedule, and else that of the
-- text
abbrev pub IsToldAfter : Reading → (refused told : Refusal) → Type 0
IsToldAfter r refused told =
    ((told ≡ refused) × IsBegun r) ⊎ ((e : TextFault) × (told ≡ of_text e) × IsRefusedAs r e)

-- the answer to a question on the run of the schedule that a reader was opened on
abbrev pub IsAnswered : (start receives : ℕ → ℕ) → ProgramTree → Setup → Reading → Question
    → RunAnswer → Type 0
IsAnswered start receives p s r q a =
    (events : List Event) × IsScheduleOf s r events × Answered start receives p s events q a

-- the run of the schedule that a reader was opened on has a report, and the picture shows a part
-- of it
abbrev pub IsDrawnAs : (start : ℕ → ℕ) → ProgramTree → Setup → Reading → Drawing → Type 0
IsDrawnAs start p s r d =
    (events : List Event) × (report : Report) × IsScheduleOf s r events × IsShownOf s d
    × IsFitRun p s [] events × IsReportOf start p s events report

-- `out` gained the answer to a question on a run
abbrev pub TellsAnswer : Source → Files → Option (List ℕ) → Question
    → Option (List ℕ) → Option (List ℕ) → Type 0
TellsAnswer source files file q old new =
    (a : RunAnswer) × AnswersRun source files file q a × SaysAnswer a old new

-- `out` gained the schedule of a run in lockstep
abbrev pub TellsLockstep : Source → Files → (header : Option (List ℕ))
    → (omissions : Option (Bor (List ℕ))) → Terms → (old new : Option (List ℕ)) → Type 0
TellsLockstep source files header omissions t old new =
    (made : List ℕ) × MakesLockstep source files header omissions t made × Appends old new made

-- why it isn't told
abbrev pub IsRefusedLockstep : Source → Files → (header : Option (List ℕ))
    → (omissions : Option (Bor (List ℕ))) → Terms → Refusal → Type 0
IsRefusedLockstep source files header omissions t refusal.Write =
    (made : List ℕ) × MakesLockstep source files header omissions t made
IsRefusedLockstep source files header omissions t r =
    IsUnmade source files header omissions t r

-- why a report isn't written: `out` doesn't take it, there is no memory for its text, or a table of
-- named variables is asked for
abbrev pub IsUntoldReport : Form → Refusal → Type 0
IsUntoldReport form refusal.Write = ⊤
IsUntoldReport form refusal.NoMemory = ⊤
IsUntoldReport form refusal.NoVariable = NamesColumns form
IsUntoldReport form _ = ⊥

-- why an answer isn't written
abbrev pub IsUntold : RunAnswer → Refusal → Type 0
IsUntold (answer.Report report form) r = IsUntoldReport form r
IsUntold (answer.Verdict verdict f) r = r ≡ refusal.Write

-- the question is for a table of named variables
abbrev pub AsksForColumns : Question → Type 0
AsksForColumns (question.Report form) = NamesColumns form
AsksForColumns (question.Verdict terms f) = ⊥

-- why an answer isn't told
abbrev pub IsRefusedAnswer : Source → Files → Option (List ℕ) → Question → Refusal → Type 0
IsRefusedAnswer source files file q refusal.Write =
    (a : RunAnswer) × AnswersRun source files file q a
IsRefusedAnswer source files file q refusal.NoVariable =
    AsksForColumns q × ((a : RunAnswer) × AnswersRun source files file q a)
IsRefusedAnswer source files file q r = IsUnanswered source files file (listed_by q) r

-- the program and the setup of a run by threads, which fit each other
pub record AreReady (source : Source) (files : Files) (file : Option (List ℕ)) (p : ProgramTree)
    (t : ThreadSetup) : Type 0 where
  pub opened : IsOpened source files
  pub read : IfSome file (λ text. IsThreadSetup text t.setup t.plan t.pace t.stops.items)
  pub program : IsProgramOf source files t.setup.nodes t.setup.faults p
  pub fit : IsFitForThreads p.values t.setup t.stops.items
  pub plan : IsPlan t.plan

-- the refusals of a run whose threads were to start
abbrev pub IsAfterStart : Refusal → Type 0
IsAfterStart (refusal.Run run.NoThread) = ⊤
IsAfterStart (refusal.Run run.Unmatched) = ⊤
IsAfterStart _ = ⊥

-- the program and the header of a search that begins
pub record AreSearchable (source : Source) (files : Files) (file : Option (List ℕ)) (e : Exploring)
    (p : ProgramTree) (s : Setup) (k : PlanKind) : Type 0 where
  pub opened : IsOpened source files
  pub read : IfSome file (λ text. IsHeader text s k)
  pub program : IsProgramOf source files s.nodes s.faults p
  pub explored : IsExplored p s k e

-- why what is found in all runs isn't told
abbrev pub IsRefusedSearch : Source → Files → Option (List ℕ) → Exploring → Refusal → Type 0
IsRefusedSearch source files file e refusal.Write = IsUntraced source files file e
IsRefusedSearch source files file e r = IsUnexplored source files file e r

-- why the report of a run by threads isn't told
abbrev pub IsRefusedThreads : Source → Files → Option (List ℕ) → Refusal → Type 0
IsRefusedThreads source files file refusal.Write = StartsThreads source files file
IsRefusedThreads source files file refusal.NodeNoMemory = StartsThreads source files file
IsRefusedThreads source files file r = IsUnthreaded source files file r

-- the text is that of no part; the place is that of its file in the order of the words
abbrev pub IsBadPart : (place : ℕ) → List ℕ → Refusal → Type 0
IsBadPart place text (refusal.Part (part.Line k n)) =
    (k ≡ place) × ((p : PartAnswers) → IsWellFormed p → text ≢ part_text p)
IsBadPart place text refusal.NoMemory = ⊤
IsBadPart place text _ = ⊥

-- why there are no answers of a part in a file
abbrev pub IsPartless : (place : ℕ) → Option (List ℕ) → Refusal → Type 0
IsPartless place file refusal.File =
    IfSome file (λ held. IsNoText max_text held ⊎ IsLongText max_text held)
IsPartless place file (refusal.Part (part.Line k n)) =
    (k ≡ place) × IfSome file (λ held. (p : PartAnswers) → IsWellFormed p → held ≢ part_text p)
IsPartless place file refusal.NoMemory = ⊤
IsPartless place file _ = ⊥

-- why parts make no whole
abbrev pub IsNoWhole : List PartAnswers → Refusal → Type 0
IsNoWhole parts (refusal.Part (part.Parts fault)) = IsFaultOf parts fault
IsNoWhole parts refusal.NoMemory = ⊤
IsNoWhole parts _ = ⊥

-- the file has the text, which commands can read, if there are both
abbrev pub HoldsText : (after : Files) → Option (Bor (List ℕ)) → Option (List ℕ) → Type 0
HoldsText after (Some name) (Some text) =
    (length text ≤ max_schedule) × IfSome (after name.now) (λ held. held ≡ text)
HoldsText after _ _ = ⊤

-- and it alone was written
abbrev pub WritesText :
    Option (Bor (List ℕ)) → Option (List ℕ) → (old new : List (List ℕ)) → Type 0
WritesText (Some name) (Some text) old new = new ≡ old ++ name.now ∷ []
WritesText _ _ old new = new ≡ old
