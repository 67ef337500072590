-- What the program writes, as a relation of its words to the files on the desk.
use Rattle.std.specs.Borrow.{Bor}
use Rattle.std.specs.Prelude.{◌≡◌, ◌<◌, ◌≤◌, ◌++◌, ◌⊎◌, ⊤, ℕ, All, Bool, List, None, Option, Some}
use Rattle.std.specs.Prelude.{IfSome, IsSome, [], codes, false, is_some, length, string_bytes, true}
use Rattle.std.specs.Global.{Vec}
use Rattle.std.specs.Prelude.{if◌then◌else◌}
use Rattle.std.specs.Fmt.{decimal}
use Rattle.std.specs.Io.KnownBytes.{Appends}
use Rattle.node_threads.specs.Ends.{IsFitForThreads}
use Rattle.omission_texts.specs.Texts.{Says as SaysOmissions}
use Rattle.omission_texts.specs.declared.line.OmissionLine.{OmissionLine}
use Rattle.schedule_text.specs.Texts.{SaysOf, Tail, max_text as max_schedule}
use Rattle.schedule_text.specs.declared.kind.Kind.{Kind}
use Rattle.schedule_text.specs.declared.kind.Kind.TheVariants as kinds
use Rattle.schedule_text.specs.declared.pace.Pace.{Pace}
use Rattle.schedule_text.specs.declared.pace.Stop.{Stop}
use Rattle.answer_details.specs.declared.details.Details.{Details}
use Rattle.command_runs.specs.declared.asking.Answer.{Answer}
use Rattle.command_runs.specs.declared.asking.Answer.TheVariants as answer
use Rattle.command_runs.specs.declared.asking.Question.{Question}
use Rattle.command_runs.specs.declared.asking.Question.TheVariants as question
use Rattle.command_runs.specs.declared.exploring.Explored.{Explored}
use Rattle.command_runs.specs.declared.outcome.Outcome.{Outcome}
use Rattle.command_runs.specs.declared.outcome.Outcome.TheVariants.{Done}
use Rattle.command_runs.specs.declared.sources.Opened.{Opened}
use Rattle.command_runs.specs.declared.sources.Opened.TheVariants as opened
use Rattle.command_runs.specs.declared.sources.SourceText.{SourceText}
use Rattle.command_runs.specs.declared.sources.SourceText.TheVariants as kept
use Rattle.command_runs.specs.ByThreads.{IsThreadRun}
use Rattle.command_runs.specs.Explained.{IsReportOf, IsVerdictOf}
use Rattle.command_runs.specs.InChanges.{Terms}
use Rattle.command_runs.specs.InLockstep.{IsLockstepText, IsWritten}
use Rattle.command_runs.specs.InOmissions.{ShowsOmitting, realised_by}
use Rattle.command_runs.specs.InParts.{IsHeadOf, MakesWhole, TellsWhole, explored_with}
use Rattle.command_runs.specs.InParts.{has_details}
use Rattle.command_runs.specs.InRounds.{IsFound, ShowsFailure, outcome_of}
use Rattle.command_runs.specs.Library.{Offers}
pub use Rattle.command_runs.specs.Sources.{ShowsSource, SpellsTyped, file_name}
use Rattle.command_runs.specs.Texts.{Files, HoldsWhole}
use Rattle.command_runs.specs.Within.{IsExplored, IsFitOmitting, IsFitRun}
use Rattle.schedule_text.specs.Bytes.{IsText}
use Rattle.clap.specs.Words.{IsAmong, fault_of}
use Rattle.clap.specs.declared.error.ErrorKind.TheVariants as kind
use Rattle.command_words.specs.Commands.{roundc_app}
use Rattle.command_words.specs.Given.{Means}
use Rattle.command_words.specs.declared.changes.Changes.{Changes}
use Rattle.command_words.specs.declared.exploring.Exploring.{Exploring}
use Rattle.command_words.specs.declared.forms.AnswerFormat.{AnswerFormat}
use Rattle.command_words.specs.declared.forms.AnswerFormat.TheVariants as answer_format
use Rattle.command_words.specs.declared.forms.Form.{Form}
use Rattle.command_words.specs.declared.forms.Format.{Format}
use Rattle.command_words.specs.declared.forms.Format.TheVariants as format
use Rattle.command_words.specs.declared.values.Source.{Source}
use Rattle.command_words.specs.declared.values.Source.TheVariants.{File, Library}
use Rattle.command_words.specs.declared.words.Words.{Words}
use Rattle.command_words.specs.declared.drawing.Drawing.{Drawing}
use Rattle.command_words.specs.declared.words.Words.TheVariants.{Check, Draw, Explore, Judge}
use Rattle.command_words.specs.declared.words.Words.TheVariants.{Lockstep, Realise, Rounds, Run}
use Rattle.command_words.specs.declared.words.Words.TheVariants.{Show, Threads, Together}
use Rattle.exploration_texts.specs.Told.{AreAnswers, all_hold}
use Rattle.exploration_texts.specs.declared.told.Told.{Told}
use Rattle.part_answers.specs.Answers.{answers_text}
use Rattle.part_answers.specs.declared.answered.Answered.{Answered as PartAnswer}
use Rattle.part_answers.specs.declared.part.PartHead.{PartHead}
use Rattle.omission_explainer.specs.Decided.{decided_line, summary_of}
use Rattle.omission_explainer.specs.Report.{report_text}
use Rattle.omission_explainer.specs.declared.summary.Decided.{Decided}
use Rattle.omission_explainer.specs.declared.summary.Decided.TheVariants as decided
use Rattle.omission_explainer.specs.Verdict.{verdict_text}
use Rattle.omission_explainer.specs.declared.judging.Verdict.{Verdict}
use Rattle.omission_explainer.specs.declared.report.Report.{Report}
use Rattle.round_check.specs.Causes.{is_typed}
use Rattle.run_data.specs.Omitted.{omissions_text}
use Rattle.run_data.specs.ReportData.{report_data}
use Rattle.round_lang.specs.Limits.{max_text}
use Rattle.round_lang.specs.Source.{IsSource}
use Rattle.round_lang.specs.Syntax.{ProgramTree}
use Rattle.round_meaning.specs.declared.setup.Setup.{Setup}
use Rattle.slot_plans.specs.Named.{IsPlan, receives_of, start_of}
use Rattle.run_events.specs.declared.plan_kind.PlanKind.{PlanKind}
use Rattle.run_events.specs.declared.event.Event.{Event}

-- the text is this program, every expression of which has its type
pub record IsCheckedSource (text : List ℕ) (p : ProgramTree) : Type 0 where
  pub fits : IsText max_text text
  pub source : IsSource text p
  pub typed : is_typed p ≡ true

-- the program of a source, for so many nodes and faults: what the file's text is, or the library's
abbrev pub IsProgramOf : Source → Files → (nodes faults : ℕ) → ProgramTree → Type 0
IsProgramOf (File name) files nodes faults p =
    IfSome (files (file_name name.now)) (λ text. IsCheckedSource text p)
IsProgramOf (Library name values) files nodes faults p = Offers name.now values nodes faults p

-- a source that was opened: the program that the whole text of its file spells, with that text, or
-- what it names of the library
abbrev pub Opens : Source → Files → Opened → Type 0
Opens (File name) files (opened.File p text) =
    HoldsWhole max_text (files (file_name name.now)) (string_bytes text)
    × SpellsTyped (string_bytes text) p
Opens (Library name values) files (opened.Library n k) = (n ≡ name) × (k ≡ values)
Opens _ files _ = ⊥

-- the program of an opened source, for so many nodes and faults
abbrev pub HoldsProgram : Opened → (nodes faults : ℕ) → ProgramTree → Type 0
HoldsProgram (opened.File q text) nodes faults p = p ≡ q
HoldsProgram (opened.Library name values) nodes faults p = Offers name.now values nodes faults p

-- the text of an opened source
abbrev pub HoldsSourceText : Opened → SourceText → Type 0
HoldsSourceText (opened.File q text) (kept.File same) = same ≡ text
HoldsSourceText (opened.Library n k) (kept.Library name values) = (name ≡ n) × (values ≡ k)
HoldsSourceText _ _ = ⊥

-- the text is of this kind, with this setup and plan in its header, and this behind it
pub record IsOfKind (kind : Kind) (text : List ℕ) (s : Setup) (k : PlanKind) (t : Tail kind) :
    Type 0 where
  pub fits : IsText max_schedule text
  pub says : SaysOf kind text s k t

-- the text is this schedule
abbrev pub IsSchedule : List ℕ → Setup → PlanKind → List Event → Type 0
IsSchedule text s k events = IsOfKind kinds.Schedule text s k events

-- the text is a header, with nothing behind it, of this setup and plan
abbrev pub IsHeader : List ℕ → Setup → PlanKind → Type 0
IsHeader text s k = IsOfKind kinds.Header text s k tt

-- the text is this thread setup
abbrev pub IsThreadSetup : List ℕ → Setup → PlanKind → Pace → List Stop → Type 0
IsThreadSetup text s k pace stops = IsOfKind kinds.Threads text s k (pace, stops)

-- the text says of which messages a run is without
pub record IsOmissionText (text : List ℕ) (ls : List OmissionLine) : Type 0 where
  pub fits : IsText max_schedule text
  pub says : SaysOmissions text ls

-- `ok values K period P variables M`
abbrev pub summary_text : ProgramTree → List ℕ
summary_text p =
    codes "ok values " ++ decimal p.values ++ codes " period " ++ decimal p.period
    ++ codes " variables " ++ decimal (length p.variables) ++ codes "\n"

-- `{"values":K,"period":P,"variables":M}`
abbrev pub summary_data : ProgramTree → List ℕ
summary_data p =
    codes "{\"values\":" ++ decimal p.values ++ codes ",\"period\":" ++ decimal p.period
    ++ codes ",\"variables\":" ++ decimal (length p.variables) ++ codes "}\n"

-- what a program declares, in a format
abbrev pub summary_as : AnswerFormat → ProgramTree → List ℕ
summary_as answer_format.Text p = summary_text p
summary_as answer_format.Json p = summary_data p

abbrev pub truth_text : Bool → List ℕ
truth_text true = codes "true"
truth_text false = codes "false"

-- the number of a round, or null
abbrev pub round_data : Option ℕ → List ℕ
round_data None = codes "null"
round_data (Some r) = decimal r

-- `{"lockstep":true,"bound":false,"clear":5}`
abbrev pub verdict_data : Verdict → List ℕ
verdict_data v =
    codes "{\"lockstep\":" ++ truth_text v.lockstep ++ codes ",\"bound\":" ++ truth_text v.bound
    ++ codes ",\"clear\":" ++ round_data v.clear ++ codes "}\n"

-- the line of a verdict in a format
abbrev pub verdict_as : AnswerFormat → Verdict → List ℕ
verdict_as answer_format.Text v = verdict_text v ++ codes "\n"
verdict_as answer_format.Json v = verdict_data v

-- the report of the source's run under the schedule in a file
abbrev pub ReportsRun : Source → Files → Option (List ℕ) → Report → Type 0
ReportsRun source files file report =
    IfSome file (λ text. (s : Setup) × (k : PlanKind) × (events : List Event) × (p : ProgramTree)
    × IsSchedule text s k events × IsProgramOf source files s.nodes s.faults p
    × IsPlan k × IsFitRun p s [] events × IsReportOf (start_of k s.nodes) p s events report)

-- a picture's nodes are the run's, and its rounds begin in the run
pub record IsShownOf (s : Setup) (d : Drawing) : Type 0 where
  pub nodes : All (λ n. n < s.nodes) d.nodes.items
  pub rounds : IfSome d.rounds (λ r. r.first ≤ s.rounds)

-- the source's run under the schedule in a file has a report, and the picture shows a part of it
abbrev pub DrawsRun : Source → Files → Option (List ℕ) → Drawing → Type 0
DrawsRun source files file d =
    IfSome file (λ text. (s : Setup) × (k : PlanKind) × (events : List Event) × (p : ProgramTree)
    × (report : Report) × IsSchedule text s k events
    × IsProgramOf source files s.nodes s.faults p × IsShownOf s d × IsPlan k
    × IsFitRun p s [] events × IsReportOf (start_of k s.nodes) p s events report)

-- the verdict on the source's run under the schedule in a file
abbrev pub JudgesRun : Source → Files → Option (List ℕ) → List ℕ → ℕ → ℕ → Verdict → Type 0
JudgesRun source files file correct delta gst verdict =
    IfSome file (λ text. (s : Setup) × (k : PlanKind) × (events : List Event) × (p : ProgramTree)
    × IsSchedule text s k events × IsProgramOf source files s.nodes s.faults p
    × IsPlan k × IsFitRun p s correct events
    × IsVerdictOf (start_of k s.nodes) (receives_of k) p s events correct delta gst verdict)

-- the lines of the file of this name; without a name there are none
abbrev pub SaysLines : Files → Option (Bor (List ℕ)) → List OmissionLine → Type 0
SaysLines files None ls = ls ≡ []
SaysLines files (Some name) ls = IfSome (files name.now) (λ text. IsOmissionText text ls)

-- the source's program, the header in a file, and the omissions in another, if that has a name
pub record IsPaced (source : Source) (files : Files) (header_file : Option (List ℕ))
    (omission_name : Option (Bor (List ℕ))) (p : ProgramTree) (s : Setup) (k : PlanKind)
    (ls : List OmissionLine) : Type 0 where
  pub header : IfSome header_file (λ text. IsHeader text s k)
  pub omissions : SaysLines files omission_name ls
  pub program : IsProgramOf source files s.nodes s.faults p

-- the text is the schedule of a run in lockstep, of the source's program under the header in a
-- file, with the omissions in another, if that has a name
abbrev pub MakesLockstep : Source → Files → (header : Option (List ℕ))
    → (omissions : Option (Bor (List ℕ))) → Terms → List ℕ → Type 0
MakesLockstep source files header omissions t made =
    (s : Setup) × (k : PlanKind) × (ls : List OmissionLine) × (p : ProgramTree)
    × IsPaced source files header omissions p s k ls × IsPlan k × IsFitOmitting p s ls
    × All (λ n. n < s.nodes) t.correct × IsLockstepText (start_of k s.nodes) p s k ls t made

-- the source's program, the header in one file, and the omissions in another
pub record IsAsked (source : Source) (files : Files) (header_file omission_file : Option (List ℕ))
    (p : ProgramTree) (s : Setup) (k : PlanKind) (ls : List OmissionLine) : Type 0 where
  pub header : IfSome header_file (λ text. IsHeader text s k)
  pub omissions : IfSome omission_file (λ text. IsOmissionText text ls)
  pub program : IsProgramOf source files s.nodes s.faults p

-- the text is the schedule that omits what the lines of a file say, under the header in another
abbrev pub RealisesOmissions : Source → Files → (header omissions : Option (List ℕ)) → List ℕ
    → Type 0
RealisesOmissions source files header omissions made =
    (s : Setup) × (k : PlanKind) × (ls : List OmissionLine) × (p : ProgramTree)
    × IsAsked source files header omissions p s k ls × IsPlan k × IsFitOmitting p s ls
    × IsWritten s k (realised_by (receives_of k) (start_of k s.nodes) s ls) made

-- the report of the run in rounds that omits what the lines of a file say, under the header in
-- another
abbrev pub ReportsRounds : Source → Files → (header omissions : Option (List ℕ)) → Report → Type 0
ReportsRounds source files header omissions report =
    (s : Setup) × (k : PlanKind) × (ls : List OmissionLine) × (p : ProgramTree)
    × IsAsked source files header omissions p s k ls × IsPlan k × IsFitOmitting p s ls
    × ShowsOmitting (start_of k s.nodes) p s ls report

-- the report of the source's run by threads under the setup in a file, which is whole if each
-- thread had memory, and the other file is the trace of that run as a schedule
abbrev pub ReportsThreads : Source → Files → (file after : Option (List ℕ)) → (whole : Bool)
    → Report → Type 0
ReportsThreads source files file after whole report =
    IfSome file (λ text. (s : Setup) × (k : PlanKind) × (pace : Pace) × (stops : List Stop)
    × (events : List Event) × (p : ProgramTree) × IsThreadSetup text s k pace stops
    × IsProgramOf source files s.nodes s.faults p × IsPlan k × IsFitForThreads p.values s stops
    × IsThreadRun (start_of k s.nodes) p s stops whole events report
    × IfSome after (λ held. IsWritten s k events held))

-- what is found in all runs of the source's program, under the header in a file
abbrev pub FindsIn : Source → Files → Option (List ℕ) → Exploring → Explored → Type 0
FindsIn source files file e x =
    IfSome file (λ text. (s : Setup) × (k : PlanKind) × (p : ProgramTree) × IsHeader text s k
    × IsProgramOf source files s.nodes s.faults p × IsExplored p s k e
    × IsFound (receives_of k) (start_of k s.nodes) p s k e x.found
    × IsHeadOf source files s p e x.head)

-- if a trace is asked for and a property fails, its file shows the first that does, and isn't too
-- long to be read
abbrev pub HasTrace :
    Setup → PlanKind → Option (Bor (List ℕ)) → (after : Files) → List Told → Type 0
HasTrace s k None after told = ⊤
HasTrace s k (Some name) after told = (all_hold told ≡ true)
    ⊎ IfSome (after name.now) (λ held. (length held ≤ max_schedule)
    × ShowsFailure (receives_of k) (start_of k s.nodes) s k told held)

-- this is told of all runs of the source's program, under the header in a file
abbrev pub TellsOfAll : Source → (files after : Files) → Option (List ℕ) → Exploring
    → Option PartHead → List Told → Type 0
TellsOfAll source files after file e head told =
    IfSome file (λ text. (s : Setup) × (k : PlanKind) × (p : ProgramTree) × IsHeader text s k
    × IsProgramOf source files s.nodes s.faults p × IsExplored p s k e
    × AreAnswers p s e told × HasTrace s k e.trace after told
    × IsHeadOf source files s p e head)

-- the answer to a question on a run
abbrev pub AnswersRun : Source → Files → Option (List ℕ) → Question → Answer → Type 0
AnswersRun source files file (question.Report told) (answer.Report report shown) =
    (shown ≡ told) × ReportsRun source files file report
AnswersRun source files file (question.Verdict terms f) (answer.Verdict verdict shown) =
    (shown ≡ f) × JudgesRun source files file terms.correct.now terms.delta terms.gst verdict
AnswersRun source files file _ _ = ⊥

-- the same of a setup and events, under a plan
abbrev pub Answered : (start receives : ℕ → ℕ) → ProgramTree → Setup → List Event → Question
    → Answer → Type 0
Answered start receives p s events (question.Report told) (answer.Report report shown) =
    (shown ≡ told) × IsFitRun p s [] events × IsReportOf start p s events report
Answered start receives p s events (question.Verdict terms f) (answer.Verdict verdict shown) =
    (shown ≡ f) × IsFitRun p s terms.correct.now events
    × IsVerdictOf start receives p s events terms.correct.now terms.delta terms.gst verdict
Answered start receives p s events _ _ = ⊥

-- the report, with what all decisions in it come to if that was asked for
abbrev pub told_text : Report → Bool → List ℕ
told_text report told = report_text report ++ decided_line told (summary_of report.rows)

-- what all decisions come to, as data: null for none
abbrev pub decided_value : Decided → List ℕ
decided_value decided.None = codes "null"
decided_value (decided.One v) = decimal v
decided_value decided.Split = codes "\"split\""

-- the line of data that says it, if that was asked for
abbrev pub decided_data : Bool → Decided → List ℕ
decided_data told all =
    if told then codes "{\"decided\":" ++ decided_value all ++ codes "}\n" else []

-- the same as data
abbrev pub data_text : Report → Bool → List ℕ
data_text report told = report_data report ++ decided_data told (summary_of report.rows)

-- the messages that it omits as an omission file, and if asked for, a comment on its decisions
abbrev pub omitted_text : Report → Bool → List ℕ
omitted_text report told =
    omissions_text report ++ (if told then codes "# " else [])
    ++ decided_line told (summary_of report.rows)

-- a table of named variables is asked for
abbrev pub NamesColumns : Form → Type 0
NamesColumns form = (form.format ≡ format.Table) × IsSome form.variables

-- the text is the report in this format; of that of a table or a summary nothing is said
abbrev pub IsFormed : Format → Report → Bool → List ℕ → Type 0
IsFormed format.Text report told text = text ≡ told_text report told
IsFormed format.Json report told text = text ≡ data_text report told
IsFormed format.Table report told text = ⊤
IsFormed format.Summary report told text = ⊤
IsFormed format.Omissions report told text = text ≡ omitted_text report told

-- the text is the report in this form
abbrev pub IsReportText : Form → Report → List ℕ → Type 0
IsReportText form report text = IsFormed form.format report form.decided text

-- `out` gained the report in this form
abbrev pub SaysReport : Form → Report → (old new : Option (List ℕ)) → Type 0
SaysReport form report old new =
    (text : List ℕ) × IsReportText form report text × Appends old new text

-- `out` gained the answer
abbrev pub SaysAnswer : Answer → (old new : Option (List ℕ)) → Type 0
SaysAnswer (answer.Report report form) old new = SaysReport form report old new
SaysAnswer (answer.Verdict verdict f) old new = Appends old new (verdict_as f verdict)

-- the terms of a run in lockstep by its words
abbrev pub terms_by : (correct : Vec ℕ) → (delta gst : ℕ) → (delays orders : Vec ℕ) → Option ℕ
    → Changes → Terms
terms_by correct delta gst delays orders ticks changes = record {
  correct = correct.items;
  bounded = record { delta = delta; gst = gst; delays = delays.items; orders = orders.items };
  ticks = ticks;
  stops = changes.stops.items;
  delays = changes.delays.items;
}

-- what a command prints, if these are the files before it and after it; a program is checked as
-- for one node without faults; of the text of a picture nothing is said
abbrev pub Prints : Words → (files after : Files) → List ℕ → Type 0
Prints (Check source f) files after text =
    (p : ProgramTree) × IsProgramOf source files 1 0 p × (text ≡ summary_as f p)
Prints (Show source) files after text = ShowsSource source files text
Prints (Draw source schedule drawing) files after text =
    DrawsRun source files (files schedule.now) drawing
Prints (Run source schedule form) files after text =
    (report : Report) × ReportsRun source files (files schedule.now) report
    × IsReportText form report text
Prints (Threads source setup trace told) files after text =
    (report : Report)
    × ReportsThreads source files (files setup.now) (after trace.now) true report
    × (text ≡ told_text report told)
Prints (Judge source schedule correct delta gst f) files after text =
    (verdict : Verdict)
    × JudgesRun source files (files schedule.now) correct.items delta gst verdict
    × (text ≡ verdict_as f verdict)
Prints (Lockstep source header correct delta gst delays orders ticks changes) files after text =
    MakesLockstep source files (files header.now) changes.omissions
    (terms_by correct delta gst delays orders ticks changes) text
Prints (Realise source header omissions) files after text =
    RealisesOmissions source files (files header.now) (files omissions.now) text
Prints (Rounds source header omissions form) files after text =
    (report : Report)
    × ReportsRounds source files (files header.now) (files omissions.now) report
    × IsReportText form report text
Prints (Explore source header exploring f) files after text =
    (head : Option PartHead) × (told : List Told)
    × (details : Option Details)
    × TellsOfAll source files after (files header.now) exploring head told
    × (is_some details ≡ has_details exploring) × (text ≡ explored_with f head told details)
Prints (Together names) files after text =
    (whole : List PartAnswer) × MakesWhole files names.items whole × (text ≡ answers_text whole)

-- `out` gained what the command prints
abbrev pub Serves : Words → (files after : Files) → (old new : Option (List ℕ)) → Type 0
Serves w files after old new = (text : List ℕ) × Prints w files after text × Appends old new text

-- and it ends so: `explore` and `together` say by that whether a failure is told
abbrev pub Ends : Words → (files after : Files) → Outcome → (old new : Option (List ℕ)) → Type 0
Ends (Explore source header exploring f) files after o old new =
    (head : Option PartHead) × (told : List Told) × (details : Option Details)
    × TellsOfAll source files after (files header.now) exploring head told
    × (is_some details ≡ has_details exploring) × (o ≡ outcome_of told)
    × Appends old new (explored_with f head told details)
Ends (Together names) files after o old new = TellsWhole files names.items o old new
Ends w files after o old new = (o ≡ Done) × Serves w files after old new

-- the words mean a command, and it was served and ended so
abbrev pub IsServed :
    List (List ℕ) → (files after : Files) → Outcome → (old new : Option (List ℕ)) → Type 0
IsServed words files after o old new =
    (w : Words) × Means words w × Ends w files after o old new

-- `clap` finds in the words a call for help or for the version
abbrev pub AsksForHelp : List (List ℕ) → Type 0
AsksForHelp words = IsAmong kind.DisplayHelp (fault_of roundc_app words)
    ⊎ IsAmong kind.DisplayVersion (fault_of roundc_app words)

-- the words were served and ended so, or ask for help or the version
abbrev pub IsEnded :
    List (List ℕ) → (files after : Files) → Outcome → (old new : Option (List ℕ)) → Type 0
IsEnded words files after o old new =
    IsServed words files after o old new ⊎ ((o ≡ Done) × AsksForHelp words)
