-- Why a command is refused: the cause of each refusal, and the order in which they are told.
use Rattle.std.specs.Prelude.{◌≡◌, ◌<◌, ◌⊎◌, ⊤, ℕ, All, Err, List, [], Option, IfSome, Some}
use Rattle.std.specs.Prelude.{Bool, IsSome, None, codes, false, is_some}
use Rattle.std.specs.Borrow.{Bor}
use Rattle.std.specs.Io.KnownBytes.{Appends, Keeps}
use Rattle.adversary.specs.Driving.{IsUnknownAt}
use Rattle.adversary.specs.declared.fault.ReadFault.{ReadFault}
use Rattle.adversary.specs.declared.fault.ReadFault.TheVariants as read
use Rattle.adversary.specs.declared.fault.RunFault.{RunFault}
use Rattle.adversary.specs.declared.fault.RunFault.TheVariants as run
use Rattle.algorithm_library.specs.Refusals.{IsCount, IsTooFew, IsWithin}
use Rattle.algorithm_library.specs.declared.fault.LibraryFault.{LibraryFault}
use Rattle.algorithm_library.specs.declared.fault.LibraryFault.TheVariants as library
use Rattle.command_runs.specs.InChanges.{AreFitChanges, Terms}
use Rattle.command_runs.specs.InLockstep.{AreTerms}
use Rattle.command_runs.specs.InParts.{HasNoPartText, MakesNoWhole, MakesWhole, explored_with}
use Rattle.command_runs.specs.InParts.{has_details}
use Rattle.command_runs.specs.InRounds.{IsTraceFault, trace_of}
use Rattle.command_runs.specs.Lines.{status_of}
use Rattle.command_runs.specs.Served.{AsksForHelp, FindsIn, IsCheckedSource, IsHeader, IsOfKind}
use Rattle.command_runs.specs.Served.{IsOmissionText, IsProgramOf, IsThreadSetup, Prints}
use Rattle.command_runs.specs.Served.{IsPaced, IsShownOf, NamesColumns, ReportsRounds, ReportsRun}
use Rattle.command_runs.specs.Served.{ReportsThreads, SaysLines, file_name, terms_by}
use Rattle.command_runs.specs.Served.{told_text}
use Rattle.command_runs.specs.Texts.{Files}
use Rattle.command_runs.specs.Unshown.{IsUnshown}
use Rattle.command_runs.specs.Within.{IsExplorable, IsExplored}
use Rattle.schedule_text.specs.Bytes.{IsLongText, IsNoText, IsText}
use Rattle.schedule_text.specs.declared.source.TextFault.{TextFault}
use Rattle.schedule_text.specs.declared.source.TextFault.TheVariants as text
use Rattle.command_runs.specs.declared.desk.DeskFault.{DeskFault}
use Rattle.command_runs.specs.declared.desk.DeskFault.TheVariants as desk
use Rattle.command_runs.specs.declared.exploring.Explored.{Explored}
use Rattle.command_runs.specs.declared.refusal.Refusal.{Refusal}
use Rattle.command_runs.specs.declared.refusal.Refusal.TheVariants as refusal
use Rattle.command_runs.specs.declared.trace_fault.TraceFault.{TraceFault}
use Rattle.command_words.specs.Given.{Explains, Means}
use Rattle.command_words.specs.declared.values.Source.{Source}
use Rattle.command_words.specs.declared.values.Source.TheVariants.{File, Library}
use Rattle.command_words.specs.declared.words.Words.{Words}
use Rattle.command_words.specs.declared.drawing.Drawing.{Drawing}
use Rattle.command_words.specs.declared.words.Words.TheVariants.{Check, Draw, Explore, Judge}
use Rattle.command_words.specs.declared.words.Words.TheVariants.{Lockstep, Realise, Rounds, Run}
use Rattle.command_words.specs.declared.words.Words.TheVariants.{Show, Threads, Together}
use Rattle.command_words.specs.declared.exploring.Exploring.{Exploring}
use Rattle.command_words.specs.declared.forms.AnswerFormat.{AnswerFormat}
use Rattle.command_words.specs.declared.forms.Form.{Form}
use Rattle.exploration_texts.specs.Conditions.{IsFaultFor}
use Rattle.exploration_texts.specs.declared.condition.ConditionFault.{ConditionFault}
use Rattle.exploration_texts.specs.declared.condition.ConditionFault.TheVariants as condition
use Rattle.node_threads.specs.Ends.{IsFitForThreads}
use Rattle.command_words.specs.declared.words.WordsFault.{WordsFault}
use Rattle.command_words.specs.declared.words.WordsFault.TheVariants as words
use Rattle.round_check.specs.Causes.{fault_of}
use Rattle.round_check.specs.declared.fault.CheckFault.{CheckFault}
use Rattle.round_check.specs.declared.fault.CheckFault.TheVariants as check
use Rattle.round_lang.specs.Limits.{max_text}
use Rattle.round_lang.specs.Source.{IsSource}
use Rattle.round_lang.specs.Syntax.{ProgramTree}
use Rattle.round_lang.specs.declared.fault.LangFault.{LangFault}
use Rattle.round_lang.specs.declared.fault.LangFault.TheVariants as lang
use Rattle.round_meaning.specs.Setups.{IsLawful}
use Rattle.round_meaning.specs.declared.setup.Setup.{Setup}
use Rattle.omission_explainer.specs.declared.report.Report.{Report}
use Rattle.part_answers.specs.declared.answered.Answered.{Answered}
use Rattle.omission_texts.specs.Meaning.{IsFirstUnknown}
use Rattle.omission_texts.specs.Readings.{IsReading as IsOmissionReading}
use Rattle.omission_texts.specs.declared.line.OmissionLine.{OmissionLine}
use Rattle.schedule_text.specs.Readings.{IsReadingOf}
use Rattle.schedule_text.specs.Texts.{Tail, max_text as max_schedule}
use Rattle.schedule_text.specs.declared.kind.Kind.{Kind}
use Rattle.schedule_text.specs.declared.kind.Kind.TheVariants as kinds
use Rattle.schedule_text.specs.declared.pace.Pace.{Pace}
use Rattle.schedule_text.specs.declared.pace.Stop.{Stop}
use Rattle.schedule_text.specs.declared.fault.ScheduleFault.{ScheduleFault}
use Rattle.schedule_text.specs.declared.fault.ScheduleFault.TheVariants as schedule
use Rattle.run_events.specs.declared.plan_kind.PlanKind.{PlanKind}
use Rattle.run_events.specs.declared.event.Event.{Event}
use Rattle.slot_plans.specs.Named.{IsPlan, start_of}

-- the fault of a layer below as a refusal; out of memory is one of its own
abbrev pub of_words : WordsFault → Refusal
of_words words.NoMemory = refusal.NoMemory
of_words fault = refusal.Words fault

abbrev pub of_desk : DeskFault → Refusal
of_desk desk.Failed = refusal.File
of_desk desk.NoMemory = refusal.NoMemory

-- that of a file that isn't written
abbrev pub of_unwritten : DeskFault → Refusal
of_unwritten desk.Failed = refusal.Write
of_unwritten desk.NoMemory = refusal.NoMemory

abbrev pub of_source : LangFault → Refusal
of_source lang.NoMemory = refusal.NoMemory
of_source fault = refusal.Source fault

abbrev pub of_check : CheckFault → Refusal
of_check check.NoMemory = refusal.NoMemory
of_check fault = refusal.Check fault

abbrev pub of_schedule : ScheduleFault → Refusal
of_schedule schedule.NoMemory = refusal.NoMemory
of_schedule fault = refusal.Schedule fault

abbrev pub of_text : TextFault → Refusal
of_text text.Failed = refusal.File
of_text text.NotUtf8 = refusal.File
of_text (text.Schedule fault) = of_schedule fault

abbrev pub of_library : LibraryFault → Refusal
of_library library.NoMemory = refusal.NoMemory
of_library fault = refusal.Library fault

abbrev pub of_run : RunFault → Refusal
of_run run.NoMemory = refusal.NoMemory
of_run fault = refusal.Run fault

abbrev pub of_condition : ConditionFault → Refusal
of_condition condition.NoMemory = refusal.NoMemory
of_condition fault = refusal.Condition fault

abbrev pub of_read : ReadFault → Refusal
of_read (read.Text fault) = of_text fault
of_read (read.Run fault) = of_run fault

-- a text is too long to be a program, or it is none
abbrev pub IsNoSource : List ℕ → LangFault → Type 0
IsNoSource held lang.TooLong = IsLongText max_text held
IsNoSource held lang.NoMemory = ⊥
IsNoSource held fault = IsText max_text held × ((p : ProgramTree) → ¬ (IsSource held p))

-- a text is a program that isn't typed, for this cause
abbrev pub IsUntyped : List ℕ → CheckFault → Type 0
IsUntyped held fault =
    IsText max_text held × ((p : ProgramTree) × IsSource held p × (fault_of p ≡ Some fault))

-- why there is no program in a file, where the desk says what it has: no text, none that is a
-- program, or none that is typed
abbrev pub IsNoProgram : Option (List ℕ) → Refusal → Type 0
IsNoProgram file refusal.File = IfSome file (IsNoText max_text)
IsNoProgram file (refusal.Source fault) = IfSome file (λ held. IsNoSource held fault)
IsNoProgram file (refusal.Check fault) = IfSome file (λ held. IsUntyped held fault)
IsNoProgram file refusal.NoMemory = ⊤
IsNoProgram file _ = ⊥

-- why a source isn't opened; one of the library always is
abbrev pub IsNotOpened : Source → Files → Refusal → Type 0
IsNotOpened (File name) files r = IsNoProgram (files (file_name name.now)) r
IsNotOpened (Library name values) files r = ⊥

-- a source that is opened
abbrev pub IsOpened : Source → Files → Type 0
IsOpened (File name) files =
    IfSome (files (file_name name.now)) (λ held. (p : ProgramTree) × IsCheckedSource held p)
IsOpened (Library name values) files = ⊤

-- which line of a text is the first at fault, and which fault it has
abbrev pub Fault : Type 1
Fault = List ℕ → ScheduleFault → Type 0

-- a text is too long to be read, or this is the first line at fault
abbrev pub IsBadText : Fault → List ℕ → ScheduleFault → Type 0
IsBadText HasFault held schedule.TooLong = IsLongText max_schedule held
IsBadText HasFault held schedule.NoMemory = ⊥
IsBadText HasFault held fault = IsText max_schedule held × HasFault held fault

-- why there is no text in a file that has no such fault
abbrev pub HasNoText : Fault → Option (List ℕ) → Refusal → Type 0
HasNoText HasFault file refusal.File = IfSome file (IsNoText max_schedule)
HasNoText HasFault file (refusal.Schedule fault) =
    IfSome file (λ held. IsBadText HasFault held fault)
HasNoText HasFault file refusal.NoMemory = ⊤
HasNoText HasFault file _ = ⊥

-- no line of a text is at fault
abbrev pub no_fault : Fault
no_fault held fault = ⊥

-- the first line at fault of a text that is to be of this kind
abbrev pub fault_in : Kind → Fault
fault_in kind held fault = IsReadingOf kind held (Err fault)

-- why there is no text of this kind in a file
abbrev pub IsMissing : Kind → Option (List ℕ) → Refusal → Type 0
IsMissing kind file r = HasNoText (fault_in kind) file r

-- a program of the library that needs no more than values, or Algorithm 1
abbrev pub IsPlain : List ℕ → Type 0
IsPlain name = (name ≡ codes "gather") ⊎ (name ≡ codes "count_votes")

abbrev pub IsAlgorithm1 : List ℕ → Type 0
IsAlgorithm1 name = name ≡ codes "dls1"

-- why the library has no program under a name, for K values, so many nodes and so many faults
abbrev pub IsNoOffer : List ℕ → (values nodes faults : ℕ) → Refusal → Type 0
IsNoOffer name k n t refusal.NoSuchProgram = (¬ (IsPlain name)) × (¬ (IsAlgorithm1 name))
IsNoOffer name k n t (refusal.Library library.BadValues) =
    (IsPlain name × (¬ (IsCount k))) ⊎ (IsAlgorithm1 name × (¬ (IsWithin n t k)))
IsNoOffer name k n t (refusal.Library library.TooFew) =
    IsAlgorithm1 name × IsWithin n t k × IsTooFew n t
IsNoOffer name k n t refusal.NoMemory = ⊤
IsNoOffer name k n t _ = ⊥

-- why a source has no program for so many nodes and faults; a file's has one for all
abbrev pub IsNotOffered : Source → (nodes faults : ℕ) → Refusal → Type 0
IsNotOffered (File name) n t r = ⊥
IsNotOffered (Library name values) n t r = IsNoOffer name.now values n t r

-- the numbers of a run are within their limits, and so are the nodes of LIST
pub record IsRunnable (p : ProgramTree) (s : Setup) (k : PlanKind) (correct : List ℕ) : Type 0 where
  pub setup : IsLawful p.values s
  pub plan : IsPlan k
  pub listed : All (λ n. n < s.nodes) correct

abbrev pub IsBadSetup : ProgramTree → Setup → PlanKind → List ℕ → Type 0
IsBadSetup p s k correct = ¬ (IsRunnable p s k correct)

-- why a schedule isn't run: a bad setup, else the first event that names what the setup hasn't
abbrev pub IsNotRun : ProgramTree → Setup → PlanKind → List Event → List ℕ → Refusal → Type 0
IsNotRun p s k events correct (refusal.Run run.BadSetup) = IsBadSetup p s k correct
IsNotRun p s k events correct (refusal.Run fault) =
    (¬ (IsBadSetup p s k correct)) × IsUnknownAt s events fault
IsNotRun p s k events correct refusal.NoMemory = ⊤
IsNotRun p s k events correct _ = ⊥

-- the numbers of a run and of its picture are within their limits
pub record IsDrawable (p : ProgramTree) (s : Setup) (k : PlanKind) (d : Drawing) : Type 0 where
  pub setup : IsLawful p.values s
  pub plan : IsPlan k
  pub shown : IsShownOf s d

-- why a run isn't drawn: a bad setup, else the first event that names what the setup hasn't
abbrev pub IsNotDrawn : ProgramTree → Setup → PlanKind → List Event → Drawing → Refusal → Type 0
IsNotDrawn p s k events d (refusal.Run run.BadSetup) = ¬ (IsDrawable p s k d)
IsNotDrawn p s k events d (refusal.Run fault) =
    (¬ ¬ (IsDrawable p s k d)) × IsUnknownAt s events fault
IsNotDrawn p s k events d refusal.NoMemory = ⊤
IsNotDrawn p s k events d _ = ⊥

-- a number of a run by threads is past its limits
abbrev pub IsBadForThreads : ProgramTree → Setup → PlanKind → List Stop → Type 0
IsBadForThreads p s k stops = ¬ (IsFitForThreads p.values s stops × IsPlan k)

-- why no run by threads begins: that is the one cause
abbrev pub IsUnfitForThreads : ProgramTree → Setup → PlanKind → List Stop → Refusal → Type 0
IsUnfitForThreads p s k stops (refusal.Run run.BadSetup) = IsBadForThreads p s k stops
IsUnfitForThreads p s k stops _ = ⊥

-- why there is no run by threads: none begins, or a thread couldn't be started or was told what
-- isn't recorded, of which nothing more is said
abbrev pub IsNotThreaded : ProgramTree → Setup → PlanKind → List Stop → Refusal → Type 0
IsNotThreaded p s k stops (refusal.Run run.BadSetup) = IsBadForThreads p s k stops
IsNotThreaded p s k stops (refusal.Run run.NoThread) = ¬ (IsBadForThreads p s k stops)
IsNotThreaded p s k stops (refusal.Run run.Unmatched) = ¬ (IsBadForThreads p s k stops)
IsNotThreaded p s k stops refusal.NoMemory = ⊤
IsNotThreaded p s k stops _ = ⊥

-- why there is no run in lockstep: a number or a table is past its limits, or a stop or a delay
-- isn't one that the run may have; or else this is the first line that names no message of the run
abbrev pub IsNotMade : ProgramTree → Setup → PlanKind → List OmissionLine → Terms → Refusal → Type 0
IsNotMade p s k ls t (refusal.Run run.BadSetup) =
    ¬ (AreTerms p s t × AreFitChanges (start_of k s.nodes) s ls t × IsPlan k)
IsNotMade p s k ls t (refusal.Run (run.UnknownMessage n)) =
    IsLawful p.values s × All (λ i. i < s.nodes) t.correct × IsPlan k × IsFirstUnknown s ls (Some n)
IsNotMade p s k ls t refusal.NoMemory = ⊤
IsNotMade p s k ls t _ = ⊥

-- why nothing is made of omissions: a number is past its limits, or else this is the first line
-- that names no message of the run
abbrev pub IsNotRealised : ProgramTree → Setup → PlanKind → List OmissionLine → Refusal → Type 0
IsNotRealised p s k ls (refusal.Run run.BadSetup) = ¬ (IsLawful p.values s × IsPlan k)
IsNotRealised p s k ls (refusal.Run (run.UnknownMessage n)) =
    IsLawful p.values s × IsPlan k × IsFirstUnknown s ls (Some n)
IsNotRealised p s k ls refusal.NoMemory = ⊤
IsNotRealised p s k ls _ = ⊥

-- why not all runs are gone through: a number is past its limits, or else EXPR is no condition
abbrev pub IsNotExplored : ProgramTree → Setup → PlanKind → Exploring → Refusal → Type 0
IsNotExplored p s k e (refusal.Run run.BadSetup) = ¬ (IsExplorable p s e × IsPlan k)
IsNotExplored p s k e (refusal.Condition condition.NoMemory) = ⊥
IsNotExplored p s k e (refusal.Condition fault) =
    IsExplorable p s e × IsPlan k × IsFaultFor p e.always fault
IsNotExplored p s k e refusal.NoMemory = ⊤
IsNotExplored p s k e _ = ⊥

-- why a program isn't run under a text of a kind
abbrev pub Later : Kind → Type 1
Later kind = ProgramTree → Setup → PlanKind → Tail kind → Refusal → Type 0

-- a text and a program for it are there, and the program isn't run under it
abbrev pub IsRefusedUnder :
    (kind : Kind) → Later kind → Source → Files → Setup → PlanKind → Tail kind → Refusal → Type 0
IsRefusedUnder kind NotRun source files s k t r =
    (p : ProgramTree) × IsProgramOf source files s.nodes s.faults p × NotRun p s k t r

-- a text is there, and there is no program for it, or the program isn't run
abbrev pub IsRefusedFor :
    (kind : Kind) → Later kind → Source → Files → Option (List ℕ) → Refusal → Type 0
IsRefusedFor kind NotRun source files file r =
    (s : Setup) × (k : PlanKind) × (t : Tail kind)
    × IfSome file (λ held. IsOfKind kind held s k t)
    × (IsNotOffered source s.nodes s.faults r ⊎ IsRefusedUnder kind NotRun source files s k t r)

-- why a source isn't run under the text in a file: first the source's file, then the text's, then
-- the library, then the run
abbrev pub IsRefusedInTurn :
    (kind : Kind) → Later kind → Source → Files → Option (List ℕ) → Refusal → Type 0
IsRefusedInTurn kind NotRun source files file r =
    IsNotOpened source files r
    ⊎ ((IsOpened source files × IsMissing kind file r)
    ⊎ (IsOpened source files × IsRefusedFor kind NotRun source files file r))

-- why a source isn't run by the schedule in a file
abbrev pub IsUnanswered : Source → Files → Option (List ℕ) → List ℕ → Refusal → Type 0
IsUnanswered source files file correct r =
    IsRefusedInTurn kinds.Schedule (λ p s k events r. IsNotRun p s k events correct r)
    source files file r

-- why a source's run by the schedule in a file isn't drawn
abbrev pub IsUndrawn : Source → Files → Option (List ℕ) → Drawing → Refusal → Type 0
IsUndrawn source files file d r =
    IsRefusedInTurn kinds.Schedule (λ p s k events r. IsNotDrawn p s k events d r)
    source files file r

-- why a source isn't run by threads under the setup in a file
abbrev pub IsUnthreaded : Source → Files → Option (List ℕ) → Refusal → Type 0
IsUnthreaded source files file r =
    IsRefusedInTurn kinds.Threads (λ p s k t r. IsNotThreaded p s k t.1 r) source files file r

-- why a source isn't fit to be run by threads under the setup in a file
abbrev pub IsUnfit : Source → Files → Option (List ℕ) → Refusal → Type 0
IsUnfit source files file r =
    IsRefusedInTurn kinds.Threads (λ p s k t r. IsUnfitForThreads p s k t.1 r) source files file r

-- why not all runs are gone through under the header in a file
abbrev pub IsUnexplored : Source → Files → Option (List ℕ) → Exploring → Refusal → Type 0
IsUnexplored source files file e r =
    IsRefusedInTurn kinds.Header (λ p s k _ r. IsNotExplored p s k e r) source files file r

-- the first line at fault of a text that is to say omissions
abbrev pub omission_fault : Fault
omission_fault held fault = IsOmissionReading held (Err fault)

-- why a file says no omissions
abbrev pub HasNoOmissions : Option (List ℕ) → Refusal → Type 0
HasNoOmissions file r = HasNoText omission_fault file r

-- there is a header
abbrev pub HasHeader : Option (List ℕ) → Type 0
HasHeader header =
    (s : Setup) × (k : PlanKind) × IfSome header (λ held. IsHeader held s k)

-- a header and omissions are there, and there is no program for them, or nothing is made of it
abbrev pub IsRefusedOmitting : Source → Files → (header omissions : Option (List ℕ)) → Refusal
    → Type 0
IsRefusedOmitting source files header omissions r =
    (s : Setup) × (k : PlanKind) × (ls : List OmissionLine)
    × IfSome header (λ held. IsHeader held s k) × IfSome omissions (λ held. IsOmissionText held ls)
    × (IsNotOffered source s.nodes s.faults r
    ⊎ ((p : ProgramTree) × IsProgramOf source files s.nodes s.faults p × IsNotRealised p s k ls r))

-- why nothing is made of a source, a header and omissions: first the source's file, then the
-- header's text, then that of the omissions, then the library, then the run
abbrev pub IsUnrealised : Source → Files → (header omissions : Option (List ℕ)) → Refusal → Type 0
IsUnrealised source files header omissions r =
    IsNotOpened source files r
    ⊎ ((IsOpened source files × IsMissing kinds.Header header r)
    ⊎ ((IsOpened source files × HasHeader header × HasNoOmissions omissions r)
    ⊎ (IsOpened source files × IsRefusedOmitting source files header omissions r)))

-- why the file of this name says no omissions; without a name there is nothing to refuse
abbrev pub HasNoLines : Files → Option (Bor (List ℕ)) → Refusal → Type 0
HasNoLines files None r = ⊥
HasNoLines files (Some name) r = HasNoOmissions (files name.now) r

-- a header and omissions are there, and there is no program for them
abbrev pub IsUnofferedPaced : Source → Files → (header : Option (List ℕ))
    → (omissions : Option (Bor (List ℕ))) → Refusal → Type 0
IsUnofferedPaced source files header omissions r =
    (s : Setup) × (k : PlanKind) × (ls : List OmissionLine)
    × IfSome header (λ held. IsHeader held s k) × SaysLines files omissions ls
    × IsNotOffered source s.nodes s.faults r

-- why a source, a header and omissions aren't all there: first the source's file, then the header's
-- text, then that of the omissions, then the library
abbrev pub IsUnasked : Source → Files → (header : Option (List ℕ))
    → (omissions : Option (Bor (List ℕ))) → Refusal → Type 0
IsUnasked source files header omissions r =
    IsNotOpened source files r
    ⊎ ((IsOpened source files × IsMissing kinds.Header header r)
    ⊎ ((IsOpened source files × HasHeader header × HasNoLines files omissions r)
    ⊎ (IsOpened source files × IsUnofferedPaced source files header omissions r)))

-- why no schedule of a run in lockstep is made: for that, or else for the run
abbrev pub IsUnmade : Source → Files → (header : Option (List ℕ))
    → (omissions : Option (Bor (List ℕ))) → Terms → Refusal → Type 0
IsUnmade source files header omissions t r =
    IsUnasked source files header omissions r
    ⊎ ((s : Setup) × (k : PlanKind) × (ls : List OmissionLine) × (p : ProgramTree)
    × IsPaced source files header omissions p s k ls × IsNotMade p s k ls t r)

-- a source is run by threads under the setup in a file
abbrev pub StartsThreads : Source → Files → Option (List ℕ) → Type 0
StartsThreads source files file =
    IsOpened source files × ((s : Setup) × (k : PlanKind) × (pace : Pace) × (stops : List Stop)
    × (p : ProgramTree) × IfSome file (λ held. IsThreadSetup held s k pace stops)
    × IsProgramOf source files s.nodes s.faults p × (¬ (IsBadForThreads p s k stops)))

-- all runs of a source are gone through under the header in a file
abbrev pub StartsSearch : Source → Files → Option (List ℕ) → Exploring → Type 0
StartsSearch source files file e =
    (s : Setup) × (k : PlanKind) × (p : ProgramTree) × IfSome file (λ held. IsHeader held s k)
    × IsProgramOf source files s.nodes s.faults p × IsExplored p s k e

-- why a source isn't checked
abbrev pub IsUnchecked : Source → Files → Refusal → Type 0
IsUnchecked source files r = IsNotOpened source files r ⊎ IsNotOffered source 1 0 r

-- why the table of a report isn't made: a name in the list of its variables is that of none; of
-- which nothing more is said
abbrev pub IsUntabled : Form → (Report → Type 0) → Refusal → Type 0
IsUntabled form IsReport refusal.NoVariable =
    NamesColumns form × ((report : Report) × IsReport report)
IsUntabled form IsReport _ = ⊥

-- why nothing is made of the answers of parts
abbrev pub IsNotTogether : Files → List (Bor (List ℕ)) → Refusal → Type 0
IsNotTogether files names refusal.File = HasNoPartText files names
IsNotTogether files names (refusal.Part cause) = MakesNoWhole files names cause
IsNotTogether files names refusal.NoMemory = ⊤
IsNotTogether files names _ = ⊥

-- the same, or `out` doesn't take what they make together
abbrev pub IsRefusedTogether : Files → List (Bor (List ℕ)) → Refusal → Type 0
IsRefusedTogether files names refusal.Write =
    (whole : List Answered) × MakesWhole files names whole
IsRefusedTogether files names r = IsNotTogether files names r

-- why a command isn't served, if it isn't for the output
abbrev pub IsUnserved : Words → Files → Refusal → Type 0
IsUnserved (Check source f) files r = IsUnchecked source files r
IsUnserved (Show source) files r = IsUnshown source files r
IsUnserved (Draw source schedule drawing) files r =
    IsUndrawn source files (files schedule.now) drawing r
IsUnserved (Run source schedule form) files r =
    IsUnanswered source files (files schedule.now) [] r
    ⊎ IsUntabled form (ReportsRun source files (files schedule.now)) r
IsUnserved (Threads source setup trace told) files r =
    IsUnthreaded source files (files setup.now) r
IsUnserved (Judge source schedule correct delta gst f) files r =
    IsUnanswered source files (files schedule.now) correct.items r
IsUnserved (Lockstep source header correct delta gst delays orders ticks changes) files r =
    IsUnmade source files (files header.now) changes.omissions
    (terms_by correct delta gst delays orders ticks changes) r
IsUnserved (Realise source header omissions) files r =
    IsUnrealised source files (files header.now) (files omissions.now) r
IsUnserved (Rounds source header omissions form) files r =
    IsUnrealised source files (files header.now) (files omissions.now) r
    ⊎ IsUntabled form (ReportsRounds source files (files header.now) (files omissions.now)) r
IsUnserved (Explore source header exploring f) files r =
    IsUnexplored source files (files header.now) exploring r
IsUnserved (Together names) files r = IsNotTogether files names.items r

-- the words are `threads`, and their run is one
abbrev pub IsThreaded : Words → Files → Type 0
IsThreaded (Threads source setup trace told) files = StartsThreads source files (files setup.now)
IsThreaded _ files = ⊥

-- The desk doesn't take the trace of a search, or that is a file that the command reads. So much is
-- found out before the search begins, if there is one to begin.
abbrev pub IsUntraced : Source → Files → Option (List ℕ) → Exploring → Type 0
IsUntraced source files file e = IsSome e.trace × StartsSearch source files file e

-- `out` doesn't take what the command prints, or the desk not its trace. Where the trace is a file
-- that can't be opened or that the command reads, threads and a search don't begin.
abbrev pub IsUnwritten : Words → Files → Type 0
IsUnwritten (Threads source setup trace told) files = StartsThreads source files (files setup.now)
IsUnwritten (Explore source header exploring f) files =
    IsUntraced source files (files header.now) exploring
    ⊎ ((after : Files) × (text : List ℕ)
    × Prints (Explore source header exploring f) files after text)
IsUnwritten w files = (after : Files) × (text : List ℕ) × Prints w files after text

-- the schedule that shows a failure isn't written after a search; other commands have none
abbrev pub HasNoTrace : Words → Files → TraceFault → Type 0
HasNoTrace (Explore source header exploring f) files fault =
    (x : Explored) × FindsIn source files (files header.now) exploring x
    × IsTraceFault (trace_of x.found) fault
HasNoTrace w files fault = IsUnserved w files (refusal.Trace fault)

-- and last, that something isn't written, or that the thread of a node had no memory
abbrev pub IsRefusedCommand : Words → Files → Refusal → Type 0
IsRefusedCommand w files refusal.Write = IsUnwritten w files
IsRefusedCommand w files (refusal.Trace fault) = HasNoTrace w files fault
IsRefusedCommand w files refusal.NodeNoMemory = IsThreaded w files
IsRefusedCommand w files r = IsUnserved w files r

-- the cause of a refusal: the words are no command, or the command that they mean is refused; `out`
-- may also not take the help that the words ask for, and of memory nothing is said
abbrev pub IsCause : List (List ℕ) → Files → Refusal → Type 0
IsCause ws files (refusal.Words fault) = Explains ws fault
IsCause ws files refusal.NoMemory = ⊤
IsCause ws files refusal.Write =
    AsksForHelp ws ⊎ ((w : Words) × Means ws w × IsRefusedCommand w files refusal.Write)
IsCause ws files r = (w : Words) × Means ws w × IsRefusedCommand w files r

-- known bytes of `out` stay as they were; nothing is said if the refusal is `write`
abbrev pub IsSilent : Option (List ℕ) → Option (List ℕ) → Refusal → Type 0
IsSilent old new refusal.Write = ⊤
IsSilent old new r = Keeps old new

-- `out` gained the report of a run by threads, and the other file has its trace
abbrev pub TellsThreads : Source → Files → (file after : Option (List ℕ)) → (whole told : Bool)
    → (old new : Option (List ℕ)) → Type 0
TellsThreads source files file after whole told old new =
    (report : Report) × ReportsThreads source files file after whole report
    × Appends old new (told_text report told)

-- what a run by threads leaves that was refused: if the thread of a node had no memory, the report
-- and the trace of what was recorded, and else nothing
abbrev pub LeftByThreads : Source → Files → (file after : Option (List ℕ)) → (told : Bool)
    → (old new : Option (List ℕ)) → Refusal → Type 0
LeftByThreads source files file after told old new refusal.NodeNoMemory =
    TellsThreads source files file after false told old new
LeftByThreads source files file after told old new r = IsSilent old new r

-- what a search leaves that was refused: if its trace isn't written, the answers, and else nothing
abbrev pub LeftBySearch : Source → Files → Option (List ℕ) → Exploring → AnswerFormat
    → (old new : Option (List ℕ)) → Refusal → Type 0
LeftBySearch source files file e f old new (refusal.Trace fault) =
    (x : Explored) × FindsIn source files file e x
    × (is_some x.found.details ≡ has_details e)
    × Appends old new (explored_with f x.head x.found.told.items x.found.details)
LeftBySearch source files file e f old new r = IsSilent old new r

-- what a refused command leaves
abbrev pub IsLeft : Words → (files after : Files) → (old new : Option (List ℕ)) → Refusal → Type 0
IsLeft (Threads source setup trace told) files after old new r =
    LeftByThreads source files (files setup.now) (after trace.now) told old new r
IsLeft (Explore source header exploring f) files after old new r =
    LeftBySearch source files (files header.now) exploring f old new r
IsLeft w files after old new r = IsSilent old new r

-- what the words leave whose command was refused
abbrev pub IsLeftBy : List (List ℕ) → (files after : Files) → (old new : Option (List ℕ)) → Refusal
    → Type 0
IsLeftBy ws files after old new refusal.NodeNoMemory =
    (w : Words) × Means ws w × IsThreaded w files
    × IsLeft w files after old new refusal.NodeNoMemory
IsLeftBy ws files after old new (refusal.Trace fault) =
    (w : Words) × Means ws w × IsLeft w files after old new (refusal.Trace fault)
IsLeftBy ws files after old new r = IsSilent old new r

-- a command was refused for a cause that stands, and this is what it leaves of `out`
pub record IsRefused (ws : List (List ℕ)) (files after : Files) (status : ℕ)
    (old new : Option (List ℕ)) : Type 0 where
  pub refusal : Refusal
  pub cause : IsCause ws files refusal
  pub exit : status ≡ status_of refusal
  pub left : IsLeftBy ws files after old new refusal
