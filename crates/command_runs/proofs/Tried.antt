-- From a file that is tried, and work that begins then, to what the command does.
use Rattle.std.proofs.Common.{◌≡◌, ◌≢◌, ◌⊎◌, inl, inr, List, ℕ, Option, Result, Ok, Err, sym, subst}
use Rattle.std.specs.Prelude.{IfErr, IsSome, OnOk}
use Rattle.std.specs.Borrow.{Bor}
use Rattle.command_runs.proofs.Telling.{last_no_thread, last_nodes, last_trace, last_unmatched}
use Rattle.command_runs.proofs.Telling.{last_write, not_in_turn}
use Rattle.command_runs.specs.Refused.{IsNotExplored, IsNotThreaded, IsRefusedCommand}
use Rattle.command_runs.specs.Refused.{IsRefusedInTurn, IsUnexplored, IsUnfit, IsUnfitForThreads}
use Rattle.command_runs.specs.Refused.{IsUnthreaded, Later, StartsThreads}
use Rattle.command_runs.specs.Stages.{AreReady, AreSearchable, IsAfterStart, IsRefusedSearch}
use Rattle.command_runs.specs.Stages.{IsRefusedThreads}
use Rattle.command_runs.specs.Texts.{Files}
use Rattle.command_runs.specs.declared.refusal.Refusal.{Refusal}
use Rattle.command_runs.specs.declared.refusal.Refusal.TheVariants as refusal
use Rattle.adversary.specs.declared.fault.RunFault.TheVariants as run
use Rattle.command_words.specs.declared.exploring.Exploring.{Exploring}
use Rattle.command_words.specs.declared.forms.AnswerFormat.{AnswerFormat}
use Rattle.command_words.specs.declared.values.Source.{Source}
use Rattle.command_words.specs.declared.values.Source.TheVariants as source
use Rattle.command_words.specs.declared.words.Words.TheVariants as words
use Rattle.round_lang.specs.Syntax.{ProgramTree}
use Rattle.round_meaning.specs.declared.setup.Setup.{Setup}
use Rattle.schedule_text.specs.Texts.{Tail}
use Rattle.schedule_text.specs.declared.kind.Kind.{Kind}
use Rattle.schedule_text.specs.declared.kind.Kind.TheVariants as kinds
use Rattle.schedule_text.specs.declared.pace.Stop.{Stop}
use Rattle.schedule_text.specs.declared.reading.ThreadSetup.{ThreadSetup}
use Rattle.run_events.specs.declared.plan_kind.PlanKind.{PlanKind}

-- what holds of every error
pub if_err_always : {T E : Type 0} (r : Result T E) (Q : E → Type 0) → ((e : E) → Q e) → IfErr r Q
if_err_always (Ok x) Q f = tt
if_err_always (Err e) Q f = f e

-- what holds of whatever comes
pub on_ok_always : {T E P : Type 0} (r : Result T E) → P → OnOk r P
on_ok_always (Ok x) h = h
on_ok_always (Err e) h = tt

-- what is refused in turn for one cause of the run is so for a wider one
in_turn : (kind : Kind) (N M : Later kind) (s : Source) (files : Files) (file : Option (List ℕ))
    (r : Refusal) → ((p : ProgramTree) (u : Setup) (k : PlanKind) (t : Tail kind)
    → N p u k t r → M p u k t r)
    → IsRefusedInTurn kind N s files file r → IsRefusedInTurn kind M s files file r
in_turn kind N M s files file r wider (inl h) = inl h
in_turn kind N M s files file r wider (inr (inl h)) = inr (inl h)
in_turn kind N M s files file r wider (inr (inr (opened, (u, k, t, read, inl none)))) =
    inr (inr (opened, (u, k, t, read, inl none)))
in_turn kind N M s files file r wider (inr (inr (opened, (u, k, t, read, inr (p, is, none))))) =
    inr (inr (opened, (u, k, t, read, inr (p, is, wider p u k t none))))

-- of memory nothing is said
pub in_turn_memory : (kind : Kind) (N : Later kind) (s : Source) (files : Files)
    (file : Option (List ℕ)) → IsRefusedInTurn kind N s files file refusal.NoMemory
in_turn_memory kind N (source.File name) files file = inl tt
in_turn_memory kind N (source.Library name values) files file = inr (inl (tt, tt))

-- ---- threads

unfit_is : (p : ProgramTree) (s : Setup) (k : PlanKind) (stops : List Stop) (r : Refusal)
    → IsUnfitForThreads p s k stops r → IsNotThreaded p s k stops r
unfit_is p s k stops (refusal.Run run.BadSetup) h = h
unfit_is p s k stops r h = absurd h

module _ (source : Source) (files : Files) (file : Option (List ℕ)) where
  pub unfit_unthreaded : (r : Refusal) → IsUnfit source files file r
      → IsUnthreaded source files file r
  unfit_unthreaded r h =
      in_turn kinds.Threads (λ p s k t r. IsUnfitForThreads p s k t.1 r)
      (λ p s k t r. IsNotThreaded p s k t.1 r) source files file r
      (λ p s k t none. unfit_is p s k t.1 r none) h

  -- what isn't fit is told before threads start
  pub unfit_first : (r : Refusal) → IsUnfit source files file r → IsAfterStart r → ⊥
  unfit_first (refusal.Run run.NoThread) h of =
      not_in_turn kinds.Threads (λ p s k t r. IsUnfitForThreads p s k t.1 r) source files file
      (refusal.Run run.NoThread) last_no_thread (λ p s k t none. none) h
  unfit_first (refusal.Run run.Unmatched) h of =
      not_in_turn kinds.Threads (λ p s k t r. IsUnfitForThreads p s k t.1 r) source files file
      (refusal.Run run.Unmatched) last_unmatched (λ p s k t none. none) h
  unfit_first r h of = absurd of

  -- only of joined threads it's told that one had no memory
  pub unfit_other : (r : Refusal) → IsUnfit source files file r → r ≢ refusal.NodeNoMemory
  unfit_other r h is =
      not_in_turn kinds.Threads (λ p s k t r. IsUnfitForThreads p s k t.1 r) source files file
      refusal.NodeNoMemory last_nodes (λ p s k t none. none)
      (subst (IsUnfit source files file) is h)

  -- why threads don't run is why the report isn't told
  pub threads_refused : (r : Refusal) → IsUnthreaded source files file r
      → IsRefusedThreads source files file r
  threads_refused refusal.Write h =
      absurd (not_in_turn kinds.Threads (λ p s k t r. IsNotThreaded p s k t.1 r) source files file
      refusal.Write last_write (λ p s k t none. none) h)
  threads_refused refusal.NodeNoMemory h =
      absurd (not_in_turn kinds.Threads (λ p s k t r. IsNotThreaded p s k t.1 r) source files file
      refusal.NodeNoMemory last_nodes (λ p s k t none. none) h)
  threads_refused (refusal.Words f) h = h
  threads_refused refusal.File h = h
  threads_refused (refusal.Source f) h = h
  threads_refused (refusal.Check f) h = h
  threads_refused (refusal.Condition f) h = h
  threads_refused (refusal.Schedule f) h = h
  threads_refused (refusal.Library f) h = h
  threads_refused refusal.NoSuchProgram h = h
  threads_refused (refusal.Part cause) h = h
  threads_refused (refusal.Trace f) h = h
  threads_refused refusal.NoVariable h = h
  threads_refused (refusal.Run f) h = h
  threads_refused refusal.NoMemory h = h

  -- what is ready starts
  pub ready_starts : (p : ProgramTree) (t : ThreadSetup) → AreReady source files file p t
      → StartsThreads source files file
  ready_starts p t ready = (
    ready.opened,
    (
      t.setup,
      t.plan,
      t.pace,
      t.stops.items,
      p,
      ready.read,
      ready.program,
      (λ bad. bad (ready.fit, ready.plan)),
    ),
  )

  -- no file, or no memory
  pub untried_threads : (p : ProgramTree) (t : ThreadSetup) → AreReady source files file p t
      → (r : Refusal) → (r ≡ refusal.Write) ⊎ (r ≡ refusal.NoMemory)
      → IsRefusedThreads source files file r
  untried_threads p t ready r (inl same) =
      subst (IsRefusedThreads source files file) (sym same) (ready_starts p t ready)
  untried_threads p t ready r (inr same) =
      subst (IsRefusedThreads source files file) (sym same)
      (in_turn_memory kinds.Threads (λ p s k t r. IsNotThreaded p s k t.1 r) source files file)

  -- no run of what is ready
  pub unthreaded : (p : ProgramTree) (t : ThreadSetup) → AreReady source files file p t
      → (r : Refusal) → IsNotThreaded p t.setup t.plan t.stops.items r
      → IsRefusedThreads source files file r
  unthreaded p t ready r none =
      threads_refused r (inr (inr (
        ready.opened,
        (t.setup, t.plan, (t.pace, t.stops.items), ready.read, inr (p, ready.program, none)),
      )))

-- no file and no memory come before threads
pub untried_first : (r : Refusal) → (r ≡ refusal.Write) ⊎ (r ≡ refusal.NoMemory)
    → IsAfterStart r → ⊥
untried_first r (inl same) of = subst IsAfterStart same of
untried_first r (inr same) of = subst IsAfterStart same of

-- ---- a search

module _ (source : Source) (files : Files) (file : Option (List ℕ)) (e : Exploring) where
  -- why not all runs are gone through is why nothing is told
  pub search_refused : (r : Refusal) → IsUnexplored source files file e r
      → IsRefusedSearch source files file e r
  search_refused refusal.Write h =
      absurd (not_in_turn kinds.Header (λ p s k t r. IsNotExplored p s k e r) source files file
      refusal.Write last_write (λ p s k t none. none) h)
  search_refused refusal.NodeNoMemory h = h
  search_refused (refusal.Words f) h = h
  search_refused refusal.File h = h
  search_refused (refusal.Source f) h = h
  search_refused (refusal.Check f) h = h
  search_refused (refusal.Condition f) h = h
  search_refused (refusal.Schedule f) h = h
  search_refused (refusal.Library f) h = h
  search_refused refusal.NoSuchProgram h = h
  search_refused (refusal.Part cause) h = h
  search_refused (refusal.Trace f) h = h
  search_refused refusal.NoVariable h = h
  search_refused (refusal.Run f) h = h
  search_refused refusal.NoMemory h = h

  pub unsearched : (p : ProgramTree) (s : Setup) (k : PlanKind)
      → AreSearchable source files file e p s k → (r : Refusal) → IsNotExplored p s k e r
      → IsRefusedSearch source files file e r
  unsearched p s k found r none =
      search_refused r (inr (inr (
        found.opened,
        (s, k, tt, found.read, inr (p, found.program, none)),
      )))

  -- no file, if there is a name, or no memory
  pub untried_search : (p : ProgramTree) (s : Setup) (k : PlanKind)
      → AreSearchable source files file e p s k → (r : Refusal) → IsSome e.trace
      → (r ≡ refusal.Write) ⊎ (r ≡ refusal.NoMemory) → IsRefusedSearch source files file e r
  untried_search p s k found r named (inl same) =
      subst (IsRefusedSearch source files file e) (sym same)
      (named, (s, k, p, found.read, found.program, found.explored))
  untried_search p s k found r named (inr same) =
      subst (IsRefusedSearch source files file e) (sym same)
      (in_turn_memory kinds.Header (λ p s k t r. IsNotExplored p s k e r) source files file)

-- a refused search is a refused command
module _ (source : Source) (files : Files) (header : Bor (List ℕ)) (e : Exploring)
    (format : AnswerFormat) where
  pub explore_refused : (r : Refusal) → IsRefusedSearch source files (files header.now) e r
      → IsRefusedCommand (words.Explore source header e format) files r
  explore_refused refusal.Write h = inl h
  explore_refused refusal.NodeNoMemory h =
      absurd (not_in_turn kinds.Header (λ p s k t r. IsNotExplored p s k e r) source files
      (files header.now) refusal.NodeNoMemory last_nodes (λ p s k t none. none) h)
  explore_refused (refusal.Words f) h = h
  explore_refused refusal.File h = h
  explore_refused (refusal.Source f) h = h
  explore_refused (refusal.Check f) h = h
  explore_refused (refusal.Condition f) h = h
  explore_refused (refusal.Schedule f) h = h
  explore_refused (refusal.Library f) h = h
  explore_refused refusal.NoSuchProgram h = h
  explore_refused (refusal.Part cause) h = h
  explore_refused (refusal.Trace f) h =
      absurd (not_in_turn kinds.Header (λ p s k t r. IsNotExplored p s k e r) source files
      (files header.now) (refusal.Trace f) (last_trace f) (λ p s k t none. none) h)
  explore_refused refusal.NoVariable h = h
  explore_refused (refusal.Run f) h = h
  explore_refused refusal.NoMemory h = h
