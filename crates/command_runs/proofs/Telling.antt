-- From what the parts of a command answer to what the command does.
use Rattle.std.proofs.Common.{Bool, Bor, ◌≡◌, ◌≢◌, inl, inr, ℕ, List, [], Option, Some, None}
use Rattle.std.proofs.Common.{Result, Ok, Err, ap, refl, sym, subst}
use Rattle.std.specs.Prelude.{IfErr, IfSome, string_bytes}
use Rattle.std.specs.Global.{Vec}
use Rattle.std.specs.Io.KnownBytes.{Keeps}
use Rattle.adversary.specs.declared.fault.RunFault.TheVariants as run
use Rattle.command_runs.specs.Refused.{IsNoOffer, IsNoProgram, IsNotOffered, IsNotRun}
use Rattle.command_runs.specs.Refused.{IsLeft, IsLeftBy, IsOpened, IsRefusedCommand}
use Rattle.command_runs.specs.Refused.{IsRefusedInTurn, IsSilent, LeftByThreads}
use Rattle.command_runs.specs.Refused.{IsUnanswered, IsUnrealised}
use Rattle.command_runs.specs.Refused.{Fault, HasNoText, Later, fault_in}
use Rattle.command_runs.specs.Served.{AnswersRun, IsCheckedSource, JudgesRun, NamesColumns, Opens}
use Rattle.command_runs.specs.Served.{IsFormed, IsReportText, ReportsRounds, Serves, data_text}
use Rattle.command_runs.specs.Served.{file_name, omitted_text, told_text, verdict_as}
use Rattle.command_runs.specs.Stages.{IsHeldBack, IsRefusedAnswer, IsUntold, IsUntoldReport}
use Rattle.command_runs.specs.Stages.{TellsAnswer}
use Rattle.command_runs.specs.Texts.{Files}
use Rattle.command_runs.specs.declared.asking.Answer.{Answer}
use Rattle.command_runs.specs.declared.asking.Answer.TheVariants as answer
use Rattle.command_runs.specs.declared.asking.Question.{Question}
use Rattle.command_runs.specs.declared.asking.Question.TheVariants as question
use Rattle.command_runs.specs.declared.refusal.Refusal.{Refusal}
use Rattle.command_runs.specs.declared.refusal.Refusal.TheVariants as refusal
use Rattle.command_runs.specs.declared.sources.Opened.{Opened}
use Rattle.command_runs.specs.declared.sources.Opened.TheVariants as opened
use Rattle.command_runs.specs.declared.trace_fault.TraceFault.{TraceFault}
use Rattle.command_runs.proofs.Refusing.{file_program}
use Rattle.command_words.specs.declared.forms.AnswerFormat.{AnswerFormat}
use Rattle.command_words.specs.declared.forms.Form.{Form}
use Rattle.command_words.specs.declared.forms.Format.{Format}
use Rattle.command_words.specs.declared.forms.Format.TheVariants as format
use Rattle.command_words.specs.declared.values.Source.{Source}
use Rattle.command_words.specs.declared.values.Source.TheVariants as source
use Rattle.command_words.specs.Given.{Means}
use Rattle.command_words.specs.declared.words.Words.{Words}
use Rattle.command_words.specs.declared.words.Words.TheVariants as words
use Rattle.omission_explainer.specs.declared.report.Report.{Report}
use Rattle.round_lang.specs.Syntax.{ProgramTree}
use Rattle.round_meaning.specs.declared.setup.Setup.{Setup}
use Rattle.schedule_text.specs.Texts.{Tail}
use Rattle.schedule_text.specs.declared.kind.Kind.{Kind}
use Rattle.schedule_text.specs.declared.kind.Kind.TheVariants as kinds
use Rattle.run_events.specs.declared.plan_kind.PlanKind.{PlanKind}

keeps_same : (x : Option (List ℕ)) → Keeps x x
keeps_same None = tt
keeps_same (Some xs) = refl

-- nothing was written
pub silent_same : (x : Option (List ℕ)) (r : Refusal) → IsSilent x x r
silent_same x refusal.Write = tt
silent_same x refusal.NodeNoMemory = keeps_same x
silent_same x (refusal.Words f) = keeps_same x
silent_same x refusal.File = keeps_same x
silent_same x (refusal.Source f) = keeps_same x
silent_same x (refusal.Check f) = keeps_same x
silent_same x (refusal.Condition f) = keeps_same x
silent_same x (refusal.Schedule f) = keeps_same x
silent_same x (refusal.Library f) = keeps_same x
silent_same x refusal.NoSuchProgram = keeps_same x
silent_same x (refusal.Run f) = keeps_same x
silent_same x (refusal.Part cause) = keeps_same x
silent_same x (refusal.Trace f) = keeps_same x
silent_same x refusal.NoVariable = keeps_same x
silent_same x refusal.NoMemory = keeps_same x

-- only a refused writing is told after some was written
pub silent_write : {A : Type 0} (result : Result A Refusal) (old new : Option (List ℕ))
    → IfErr result (λ r. r ≡ refusal.Write) → IfErr result (IsSilent old new)
silent_write (Ok x) old new h = tt
silent_write (Err r) old new h = subst (IsSilent old new) (sym h) tt

-- nothing was written, and it isn't told that the thread of a node had no memory
pub left_same : (source : Source) (files : Files) (file after : Option (List ℕ)) (told : Bool)
    (x : Option (List ℕ)) (r : Refusal) → r ≢ refusal.NodeNoMemory
    → LeftByThreads source files file after told x x r
left_same source files file after told x refusal.NodeNoMemory other = absurd (other refl)
left_same source files file after told x r other = silent_same x r

-- what a command leaves, the words leave that mean it
pub left_by : (ws : List (List ℕ)) (w : Words) (files after : Files) (old new : Option (List ℕ))
    (r : Refusal) → Means ws w → IsRefusedCommand w files r → IsLeft w files after old new r
    → IsLeftBy ws files after old new r
left_by ws w files after old new refusal.NodeNoMemory means cause left = (w, means, cause, left)
left_by ws w files after old new (refusal.Trace f) means cause left = (w, means, left)
left_by ws (words.Threads source setup trace told) files after old new r means cause left = left
left_by ws w files after old new r means cause left = left

pub left_if : {A : Type 0} (result : Result A Refusal) (ws : List (List ℕ)) (w : Words)
    (files after : Files) (old new : Option (List ℕ)) → Means ws w
    → IfErr result (IsRefusedCommand w files) → IfErr result (IsLeft w files after old new)
    → IfErr result (IsLeftBy ws files after old new)
left_if (Ok x) ws w files after old new means cause left = tt
left_if (Err r) ws w files after old new means cause left =
    left_by ws w files after old new r means cause left

-- nothing was written before the output took no more, or it's of no matter
pub left_write : {A : Type 0} (result : Result A Refusal) (ws : List (List ℕ))
    (files after : Files) (old new : Option (List ℕ)) → IfErr result (λ r. r ≡ refusal.Write)
    → IfErr result (IsLeftBy ws files after old new)
left_write (Ok x) ws files after old new h = tt
left_write (Err r) ws files after old new h = subst (IsLeftBy ws files after old new) (sym h) tt

some_program : (file : Option (List ℕ)) (p : ProgramTree)
    → IfSome file (λ text. IsCheckedSource text p)
    → IfSome file (λ held. (q : ProgramTree) × IsCheckedSource held q)
some_program None p h = tt
some_program (Some text) p h = (p, h)

-- a source that was opened
pub opened_is : (s : Source) (files : Files) (o : Opened) → Opens s files o → IsOpened s files
opened_is (source.File name) files (opened.File p text) h =
    some_program (files (file_name name.now)) p
    (file_program (files (file_name name.now)) (string_bytes text) p h.0 h.1)
opened_is (source.Library name values) files (opened.Library n k) h = tt
opened_is (source.File name) files (opened.Library n k) h = absurd h
opened_is (source.Library name values) files (opened.File p text) h = absurd h

-- the library has no program for what was opened
pub held_back : (s : Source) (files : Files) (o : Opened) (n t : ℕ) (r : Refusal) → Opens s files o
    → IsHeldBack o n t r → IsNotOffered s n t r
held_back (source.File name) files (opened.File p text) n t r h none = none
held_back (source.Library name values) files (opened.Library m k) n t r h none =
    subst (λ v. IsNotOffered (source.Library name v) n t r) h.1
    (subst (λ x. IsNotOffered (source.Library x k) n t r) h.0 none)
held_back (source.File name) files (opened.Library m k) n t r h none = absurd h
held_back (source.Library name values) files (opened.File p text) n t r h none = absurd h

-- what isn't told of a file, of the library or of a text
pub record IsLast (r : Refusal) : Type 1 where
  pub program : (file : Option (List ℕ)) → IsNoProgram file r → ⊥
  pub offer : (name : List ℕ) (values n t : ℕ) → IsNoOffer name values n t r → ⊥
  pub text : (HasFault : Fault) (file : Option (List ℕ)) → HasNoText HasFault file r → ⊥

pub last_nodes : IsLast refusal.NodeNoMemory
last_nodes = record {
  program = λ file h. h;
  offer = λ name values n t h. h;
  text = λ HasFault file h. h;
}

pub last_trace : (f : TraceFault) → IsLast (refusal.Trace f)
last_trace f = record {
  program = λ file h. h;
  offer = λ name values n t h. h;
  text = λ HasFault file h. h;
}

pub last_write : IsLast refusal.Write
last_write = record {
  program = λ file h. h;
  offer = λ name values n t h. h;
  text = λ HasFault file h. h;
}

pub last_no_thread : IsLast (refusal.Run run.NoThread)
last_no_thread = record {
  program = λ file h. h;
  offer = λ name values n t h. h;
  text = λ HasFault file h. h;
}

pub last_unmatched : IsLast (refusal.Run run.Unmatched)
last_unmatched = record {
  program = λ file h. h;
  offer = λ name values n t h. h;
  text = λ HasFault file h. h;
}

-- nor is it what refuses a run, before anything is written
pub not_in_turn : (kind : Kind) (NotRun : Later kind) (s : Source) (files : Files)
    (file : Option (List ℕ)) (r : Refusal) → IsLast r
    → ((p : ProgramTree) (u : Setup) (k : PlanKind) (t : Tail kind) → NotRun p u k t r → ⊥)
    → IsRefusedInTurn kind NotRun s files file r → ⊥
not_in_turn kind NotRun (source.File name) files file r last never (inl h) =
    last.program (files (file_name name.now)) h
not_in_turn kind NotRun (source.Library name values) files file r last never (inl h) = h
not_in_turn kind NotRun s files file r last never (inr (inl h)) = last.text (fault_in kind) file h.1
not_in_turn kind NotRun (source.File name) files file r last never
    (inr (inr (opened, (u, k, t, read, inl none)))) = none
not_in_turn kind NotRun (source.Library name values) files file r last never
    (inr (inr (opened, (u, k, t, read, inl none)))) =
    last.offer name.now values u.nodes u.faults none
not_in_turn kind NotRun s files file r last never
    (inr (inr (opened, (u, k, t, read, inr (p, is, none))))) = never p u k t none

-- a report has a text in each format
pub formed : (f : Format) (report : Report) (told : Bool)
    → (text : List ℕ) × IsFormed f report told text
formed format.Text report told = (told_text report told, refl)
formed format.Json report told = (data_text report told, refl)
formed format.Table report told = ([], tt)
formed format.Summary report told = ([], tt)
formed format.Omissions report told = (omitted_text report told, refl)

-- if there is no memory for an answer, there may be none for what comes before it
pub unanswered_memory : (source : Source) (files : Files) (file : Option (List ℕ))
    (correct : List ℕ) → IsUnanswered source files file correct refusal.NoMemory
unanswered_memory (source.File name) files file correct = inl tt
unanswered_memory (source.Library name values) files file correct = inr (inl (tt, tt))

pub unrealised_memory : (source : Source) (files : Files) (header omissions : Option (List ℕ))
    → IsUnrealised source files header omissions refusal.NoMemory
unrealised_memory (source.File name) files header omissions = inl tt
unrealised_memory (source.Library name values) files header omissions = inr (inl (tt, tt))

-- a report that isn't written isn't told
pub untold_report : (source : Source) (files : Files) (file : Option (List ℕ)) (told shown : Form)
    (report : Report)
    → AnswersRun source files file (question.Report told) (answer.Report report shown)
    → (r : Refusal) → IsUntoldReport shown r
    → IsRefusedAnswer source files file (question.Report told) r
untold_report source files file told shown report h refusal.Write is =
    (answer.Report report shown, h)
untold_report source files file told shown report h refusal.NoMemory is =
    unanswered_memory source files file []
untold_report source files file told shown report h refusal.NoVariable named =
    (subst NamesColumns h.0 named, (answer.Report report shown, h))
untold_report source files file told shown report h r is = absurd is

pub untold : (source : Source) (files : Files) (file : Option (List ℕ)) (q : Question) (a : Answer)
    → AnswersRun source files file q a → (r : Refusal) → IsUntold a r
    → IsRefusedAnswer source files file q r
untold source files file (question.Report told) (answer.Report report shown) h r is =
    untold_report source files file told shown report h r is
untold source files file (question.Verdict t f) (answer.Verdict v shown) h r is =
    subst (IsRefusedAnswer source files file (question.Verdict t f)) (sym is)
    (answer.Verdict v shown, h)
untold source files file (question.Report told) (answer.Verdict v shown) h r is = absurd h
untold source files file (question.Verdict t f) (answer.Report report shown) h r is = absurd h

-- the report of a run in rounds that isn't written
pub untold_rounds : (source : Source) (files : Files) (header omissions : Bor (List ℕ))
    (form : Form) (report : Report)
    → ReportsRounds source files (files header.now) (files omissions.now) report
    → (r : Refusal) → IsUntoldReport form r
    → IsRefusedCommand (words.Rounds source header omissions form) files r
untold_rounds source files header omissions form report h refusal.Write is =
    let made = formed form.format report form.decided in (files, made.0, (report, h, made.1))
untold_rounds source files header omissions form report h refusal.NoMemory is =
    inl (unrealised_memory source files (files header.now) (files omissions.now))
untold_rounds source files header omissions form report h refusal.NoVariable named =
    inr (named, (report, h))
untold_rounds source files header omissions form report h r is = absurd is

-- an answer that is told, of `run` and of `judge`
pub run_served : (source : Source) (files after : Files) (schedule : Bor (List ℕ)) (form : Form)
    (old new : Option (List ℕ))
    → TellsAnswer source files (files schedule.now) (question.Report form) old new
    → Serves (words.Run source schedule form) files after old new
run_served source files after schedule form old new (answer.Report report shown, h, said) = (
  said.0,
  (report, h.1, subst (λ (f : Form). IsReportText f report said.0) h.0 said.1),
  said.2,
)
run_served source files after schedule form old new (answer.Verdict verdict f, h, said) = absurd h

-- a refused answer, of `run` and of `judge`
pub run_refused : (source : Source) (files : Files) (schedule : Bor (List ℕ)) (told : Form)
    (r : Refusal) → IsRefusedAnswer source files (files schedule.now) (question.Report told) r
    → IsRefusedCommand (words.Run source schedule told) files r
run_refused source files schedule told refusal.Write (answer.Report report shown, h) =
    let made = formed told.format report told.decided in (files, made.0, (report, h.1, made.1))
run_refused source files schedule told refusal.Write (answer.Verdict verdict f, h) = absurd h
run_refused source files schedule told (refusal.Words f) h = inl h
run_refused source files schedule told refusal.File h = inl h
run_refused source files schedule told (refusal.Source f) h = inl h
run_refused source files schedule told (refusal.Check f) h = inl h
run_refused source files schedule told (refusal.Condition f) h = inl h
run_refused source files schedule told (refusal.Schedule f) h = inl h
run_refused source files schedule told (refusal.Library f) h = inl h
run_refused source files schedule told refusal.NoSuchProgram h = inl h
run_refused source files schedule told (refusal.Run f) h = inl h
run_refused source files schedule told (refusal.Part cause) h = inl h
run_refused source files schedule told (refusal.Trace f) h = inl h
run_refused source files schedule told refusal.NoVariable (named, (answer.Report report shown, h)) =
    inr (named, (report, h.1))
run_refused source files schedule told refusal.NoVariable (named, (answer.Verdict verdict f, h)) =
    absurd h
run_refused source files schedule told refusal.NoMemory h = inl h
run_refused source files schedule told refusal.NodeNoMemory h =
    absurd (not_in_turn kinds.Schedule (λ p s k events r. IsNotRun p s k events [] r) source files
    (files schedule.now) refusal.NodeNoMemory last_nodes (λ p s k events none. none) h)

module _ (source : Source) (files : Files) (schedule : Bor (List ℕ)) (correct : Vec ℕ)
    (delta gst : ℕ) (f : AnswerFormat) (list : Bor (List ℕ)) (same : list.now ≡ correct.items) where
  unanswered : (r : Refusal) → IsUnanswered source files (files schedule.now) list.now r
      → IsUnanswered source files (files schedule.now) correct.items r
  unanswered r h = subst (λ ns. IsUnanswered source files (files schedule.now) ns r) same h

  pub judge_served : (after : Files) (old new : Option (List ℕ))
      → TellsAnswer source files (files schedule.now)
      (question.Verdict (record { correct = list; delta = delta; gst = gst }) f) old new
      → Serves (words.Judge source schedule correct delta gst f) files after old new
  judge_served after old new (answer.Report report shown, h, said) = absurd h
  judge_served after old new (answer.Verdict verdict shown, h, said) = (
    verdict_as shown verdict,
    (
      verdict,
      subst (λ ns. JudgesRun source files (files schedule.now) ns delta gst verdict) same h.1,
      ap (λ (x : AnswerFormat). verdict_as x verdict) h.0,
    ),
    said,
  )

  pub judge_refused : (r : Refusal)
      → IsRefusedAnswer source files (files schedule.now)
      (question.Verdict (record { correct = list; delta = delta; gst = gst }) f) r
      → IsRefusedCommand (words.Judge source schedule correct delta gst f) files r
  judge_refused refusal.Write (answer.Report report shown, h) = absurd h
  judge_refused refusal.Write (answer.Verdict verdict shown, h) = (
    files,
    verdict_as f verdict,
    (
      verdict,
      subst (λ ns. JudgesRun source files (files schedule.now) ns delta gst verdict) same h.1,
      refl,
    ),
  )
  judge_refused (refusal.Words e) h = unanswered (refusal.Words e) h
  judge_refused refusal.File h = unanswered refusal.File h
  judge_refused (refusal.Source e) h = unanswered (refusal.Source e) h
  judge_refused (refusal.Check e) h = unanswered (refusal.Check e) h
  judge_refused (refusal.Condition e) h = unanswered (refusal.Condition e) h
  judge_refused (refusal.Schedule e) h = unanswered (refusal.Schedule e) h
  judge_refused (refusal.Library e) h = unanswered (refusal.Library e) h
  judge_refused refusal.NoSuchProgram h = unanswered refusal.NoSuchProgram h
  judge_refused (refusal.Run e) h = unanswered (refusal.Run e) h
  judge_refused (refusal.Part cause) h = unanswered (refusal.Part cause) h
  judge_refused (refusal.Trace e) h = unanswered (refusal.Trace e) h
  judge_refused refusal.NoVariable h = absurd h.0
  judge_refused refusal.NoMemory h = unanswered refusal.NoMemory h
  judge_refused refusal.NodeNoMemory h =
      absurd (not_in_turn kinds.Schedule (λ p s k events r. IsNotRun p s k events list.now r) source
      files (files schedule.now) refusal.NodeNoMemory last_nodes (λ p s k events none. none) h)
