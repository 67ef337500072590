-- From what each layer answers to what a command prints.
use Rattle.std.proofs.Common.{◌≡◌, ℕ, List, Option, Some, None, Result, Ok, Err, sym, ap, ◌∙◌}
use Rattle.std.proofs.Common.{subst}
use Rattle.std.specs.Prelude.{IfOk, IfSome, IsOk, OnOk, string_bytes}
use Rattle.std.specs.Io.KnownBytes.{Appends, Keeps}
use Rattle.round_meaning.specs.declared.setup.Setup.{Setup}
use Rattle.schedule_text.specs.Readers.{HasReadHeader, Reading}
use Rattle.command_words.specs.declared.values.Source.{Source}
use Rattle.command_words.specs.declared.values.Source.TheVariants as source
use Rattle.round_lang.specs.Syntax.{ProgramTree}
use Rattle.run_events.specs.declared.plan_kind.PlanKind.{PlanKind}
use Rattle.command_runs.specs.Library.{Offers}
use Rattle.command_runs.specs.Served.{AnswersRun, HoldsProgram, IsCheckedSource, IsProgramOf}
use Rattle.command_runs.specs.Served.{Opens, file_name}
use Rattle.command_runs.specs.Stages.{IsAnswered}
use Rattle.command_runs.specs.Texts.{Files}
use Rattle.command_runs.specs.declared.asking.Answer.{Answer}
use Rattle.command_runs.specs.declared.asking.Answer.TheVariants as answer
use Rattle.command_runs.specs.declared.asking.Question.{Question}
use Rattle.command_runs.specs.declared.asking.Question.TheVariants as question
use Rattle.command_runs.specs.declared.sources.Opened.{Opened}
use Rattle.command_runs.specs.declared.sources.Opened.TheVariants as opened
use Rattle.command_runs.proofs.Refusing.{file_program, read_as}
use Rattle.slot_plans.specs.Named.{IsPlan, receives_of, start_of}

-- the program of what was opened is the source's
pub program_of : (s : Source) (files : Files) (o : Opened) (n t : ℕ) (p : ProgramTree)
    → Opens s files o → HoldsProgram o n t p → IsProgramOf s files n t p
program_of (source.File name) files (opened.File q text) n t p opens holds =
    subst (λ (r : ProgramTree). IfSome (files (file_name name.now))
    (λ text. IsCheckedSource text r)) (sym holds)
    (file_program (files (file_name name.now)) (string_bytes text) q opens.0 opens.1)
program_of (source.Library name values) files (opened.Library m k) n t p opens holds =
    subst (λ x. Offers x values n t p) (ap (λ t. t.now) opens.0)
    (subst (λ k. Offers m.now k n t p) opens.1 holds)
program_of (source.File name) files (opened.Library m k) n t p opens holds = absurd opens
program_of (source.Library name values) files (opened.File q text) n t p opens holds = absurd opens

-- an answer on a schedule that is read is one on its file
pub answers_run : (source : Source) (files : Files) (p : ProgramTree) (s : Setup) (k : PlanKind)
    (r : Reading) (q : Question) (file : Option (List ℕ)) (a : Answer)
    → IsProgramOf source files s.nodes s.faults p → IfSome file (λ held. HasReadHeader held s k r)
    → IsPlan k → IsAnswered (start_of k s.nodes) (receives_of k) p s r q a
    → AnswersRun source files file q a
answers_run source files p s k r (question.Report told) None (answer.Report report shown) is begun
    plan said = (said.2.0, tt)
answers_run source files p s k r (question.Report told) (Some held) (answer.Report report shown) is
    begun plan said = (
      said.2.0,
      (s, k, said.0, p, read_as (Some held) s k r said.0 begun said.1, is, plan, said.2.1, said.2.2),
    )
answers_run source files p s k r (question.Verdict t f) None (answer.Verdict v shown) is begun
    plan said = (said.2.0, tt)
answers_run source files p s k r (question.Verdict t f) (Some held) (answer.Verdict v shown) is
    begun plan said = (
      said.2.0,
      (s, k, said.0, p, read_as (Some held) s k r said.0 begun said.1, is, plan, said.2.1, said.2.2),
    )
answers_run source files p s k r (question.Report told) file (answer.Verdict v shown) is begun
    plan said = absurd said.2
answers_run source files p s k r (question.Verdict t f) file (answer.Report report shown) is begun
    plan said = absurd said.2

-- what was written and then kept was written
appends_kept : (a b c : Option (List ℕ)) (text : List ℕ) → Appends a b text → Keeps b c
    → Appends a c text
appends_kept None b c text w k = tt
appends_kept (Some xs) None c text w k = absurd w
appends_kept (Some xs) (Some ys) None text w k = absurd k
appends_kept (Some xs) (Some ys) (Some zs) text w k = k ∙ w

-- what was written whole
pub written_whole : {B F : Type 0} (done : Result B F) (a b c : Option (List ℕ)) (text : List ℕ)
    → IsOk done → OnOk done (Appends a b text) → Keeps b c → Appends a c text
written_whole (Ok y) a b c text done wrote kept = appends_kept a b c text wrote kept
written_whole (Err y) a b c text done wrote kept = absurd (cc done)

-- what follows where all was written to its end
pub printed : {A B E F : Type 0} {Q : Type 0} (r : Result A E) (done : Result B F)
    (a b c : Option (List ℕ)) (text : List ℕ) → OnOk r (IsOk done) → OnOk done (Appends a b text)
    → OnOk r (Keeps b c) → (Appends a c text → Q) → OnOk r Q
printed (Ok x) (Ok y) a b c text done wrote kept f = f (appends_kept a b c text wrote kept)
printed (Ok x) (Err y) a b c text done wrote kept f = absurd (cc done)
printed (Err e) done a b c text went wrote kept f = tt

-- an answer under a plan that is told in another way
pub answered_as : (start receives starts waits : ℕ → ℕ) (p : ProgramTree) (s : Setup) (r : Reading)
    (q : Question) (a : Answer) → start ≡ starts → receives ≡ waits
    → IsAnswered start receives p s r q a → IsAnswered starts waits p s r q a
answered_as start receives starts waits p s r q a same also h =
    subst (λ f. IsAnswered starts f p s r q a) also
    (subst (λ f. IsAnswered f receives p s r q a) same h)

-- what follows from what an answer says where there is one
pub said_as : {T E P Q : Type 0} (r : Result T E) → OnOk r P → (P → Q) → OnOk r Q
said_as (Ok x) p f = f p
said_as (Err e) p f = tt

-- what follows from an answer and from what holds if there is one
pub ok_then : {T E Q : Type 0} (r : Result T E) (P R : T → Type 0) → (Q → (x : T) → P x → R x)
    → OnOk r Q → IfOk r P → IfOk r R
ok_then (Ok x) P R f q h = f q x h
ok_then (Err e) P R f q h = tt

-- what is served, with how it ended
pub ended_as : {T E P Q : Type 0} (r : Result T E) (done : T) → IfOk r (λ o. o ≡ done) → OnOk r P
    → (P → Q) → IfOk r (λ o. (o ≡ done) × Q)
ended_as (Ok x) done is p f = (is, f p)
ended_as (Err e) done is p f = tt
