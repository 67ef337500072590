-- From what the parts of a run in lockstep refuse to the causes of the command's refusal.
use Rattle.std.proofs.Common.{◌≡◌, ◌<◌, ◌⊎◌, inl, inr, ℕ, List, Option, Some, None, arith}
use Rattle.std.proofs.Common.{Bor, Err, Result, ap, subst, sym}
use Rattle.std.specs.Prelude.{◌↔◌, All, IfSome}
use Rattle.adversary.specs.declared.fault.RunFault.{RunFault}
use Rattle.adversary.specs.declared.fault.RunFault.TheVariants as run
use Rattle.command_runs.specs.InChanges.{AreFitChanges, Terms}
use Rattle.command_runs.specs.InLockstep.{AreTerms, LockstepCause}
use Rattle.command_runs.specs.Refused.{HasNoLines, HasNoOmissions, IsNotMade}
use Rattle.command_runs.specs.Refused.{IsRefusedCommand, IsUnmade, fault_in, of_run}
use Rattle.command_runs.specs.Refused.{omission_fault}
use Rattle.command_runs.specs.Served.{IsOmissionText, MakesLockstep, SaysLines, file_name}
use Rattle.command_runs.specs.Served.{terms_by}
use Rattle.command_runs.specs.Stages.{IsRefusedLockstep}
use Rattle.command_runs.specs.Texts.{Files}
use Rattle.command_runs.specs.declared.refusal.Refusal.{Refusal}
use Rattle.command_runs.specs.declared.refusal.Refusal.TheVariants as refusal
use Rattle.command_runs.proofs.Telling.{IsLast, last_nodes, last_write}
use Rattle.command_words.specs.declared.changes.Changes.{Changes}
use Rattle.command_words.specs.declared.values.Source.{Source}
use Rattle.command_words.specs.declared.values.Source.TheVariants as source
use Rattle.command_words.specs.declared.words.Words.TheVariants as words
use Rattle.omission_texts.specs.declared.line.OmissionLine.{OmissionLine}
use Rattle.round_lang.specs.Syntax.{ProgramTree}
use Rattle.run_events.specs.Limits.{max_nodes}
use Rattle.round_meaning.specs.declared.setup.Setup.{Setup}
use Rattle.schedule_text.specs.declared.kind.Kind.TheVariants as kinds
use Rattle.run_events.specs.declared.plan_kind.PlanKind.{PlanKind}
use Rattle.std.specs.Global.{Vec}
use Rattle.slot_plans.specs.Named.{IsPlan, start_of}

-- a node of the list isn't one of the run
pub no_listed : (start : ℕ → ℕ) (p : ProgramTree) (s : Setup) (ls : List OmissionLine) (t : Terms)
    → (All (λ n. (n < s.nodes) × (n < max_nodes)) t.correct → ⊥)
    → ¬ (AreTerms p s t × AreFitChanges start s ls t)
no_listed start p s ls t none h =
    none (λ k d l. let few = h.0.setup.sized.few_nodes in let below = h.0.listed k d l in
    (below, omega (arith, few, below)))

-- why a run isn't made, which is where its terms or its changes don't fit
pub no_run : (A : Type 0) (Fits : Type 0) (start : ℕ → ℕ) (p : ProgramTree) (s : Setup)
    (ls : List OmissionLine) (t : Terms) (f : RunFault)
    → ((◌≡◌ {A = Result A RunFault} (Err f) (Err run.BadSetup)) ↔ (Fits → ⊥))
    → (f ≡ run.NoMemory) ⊎ (f ≡ run.BadSetup)
    → ((Fits → ⊥) → ¬ (AreTerms p s t × AreFitChanges start s ls t))
    → LockstepCause start p s ls t f
no_run A Fits start p s ls t f bad (inl memory) unfit =
    subst (LockstepCause start p s ls t) (sym memory) tt
no_run A Fits start p s ls t f bad (inr setup) unfit =
    subst (LockstepCause start p s ls t) (sym setup) (unfit (bad.0 (ap (λ g. Err g) setup)))

-- what making a run in lockstep refuses, under a plan within its limits
pub not_made : (start : ℕ → ℕ) (p : ProgramTree) (s : Setup) (k : PlanKind)
    (ls : List OmissionLine) (t : Terms) (f : RunFault) → start ≡ start_of k s.nodes → IsPlan k
    → LockstepCause start p s ls t f → IsNotMade p s k ls t (of_run f)
not_made start p s k ls t run.BadSetup same plan cause = λ all.
    cause (all.0, subst (λ f. AreFitChanges f s ls t) (sym same) all.1)
not_made start p s k ls t (run.UnknownMessage n) same plan cause =
    (cause.0, cause.1, plan, cause.2)
not_made start p s k ls t run.NoMemory same plan cause = tt
not_made start p s k ls t f same plan cause = absurd cause

-- what isn't told of a file, of the library or of a text doesn't refuse it, unless the run does
not_last : (s : Source) (files : Files) (header : Option (List ℕ))
    (omissions : Option (Bor (List ℕ))) (t : Terms) (r : Refusal) → IsLast r
    → ((p : ProgramTree) (u : Setup) (k : PlanKind) (ls : List OmissionLine)
    → IsNotMade p u k ls t r → ⊥)
    → IsUnmade s files header omissions t r → ⊥
not_last (source.File name) files header omissions t r last never (inl (inl h)) =
    last.program (files (file_name name.now)) h
not_last (source.Library name values) files header omissions t r last never (inl (inl h)) = h
not_last s files header omissions t r last never (inl (inr (inl h))) =
    last.text (fault_in kinds.Header) header h.1
not_last s files header None t r last never (inl (inr (inr (inl h)))) = h.2
not_last s files header (Some name) t r last never (inl (inr (inr (inl h)))) =
    last.text omission_fault (files name.now) h.2
not_last (source.File name) files header omissions t r last never
    (inl (inr (inr (inr (opened, (u, k, ls, read, says, none)))))) = none
not_last (source.Library name values) files header omissions t r last never
    (inl (inr (inr (inr (opened, (u, k, ls, read, says, none)))))) =
    last.offer name.now values u.nodes u.faults none
not_last s files header omissions t r last never (inr (u, k, ls, p, paced, none)) =
    never p u k ls none

-- what refuses the schedule refuses the command
pub unmade_told : (s : Source) (files : Files) (header : Option (List ℕ))
    (omissions : Option (Bor (List ℕ))) (t : Terms) (r : Refusal)
    → IsUnmade s files header omissions t r → IsRefusedLockstep s files header omissions t r
unmade_told s files header omissions t refusal.Write h = absurd
    (not_last s files header omissions t refusal.Write last_write (λ p u k ls none. none) h)
unmade_told s files header omissions t (refusal.Words f) h = h
unmade_told s files header omissions t refusal.File h = h
unmade_told s files header omissions t (refusal.Source f) h = h
unmade_told s files header omissions t (refusal.Check f) h = h
unmade_told s files header omissions t (refusal.Condition f) h = h
unmade_told s files header omissions t (refusal.Schedule f) h = h
unmade_told s files header omissions t (refusal.Library f) h = h
unmade_told s files header omissions t refusal.NoSuchProgram h = h
unmade_told s files header omissions t (refusal.Part cause) h = h
unmade_told s files header omissions t (refusal.Trace f) h = h
unmade_told s files header omissions t refusal.NoVariable h = h
unmade_told s files header omissions t (refusal.Run f) h = h
unmade_told s files header omissions t refusal.NoMemory h = h
unmade_told s files header omissions t refusal.NodeNoMemory h = h

-- the files are the same ones
pub says_as : (old new : Files) (o : Option (Bor (List ℕ))) (ls : List OmissionLine)
    → ((name : List ℕ) → new name ≡ old name) → SaysLines new o ls → SaysLines old o ls
says_as old new None ls same h = h
says_as old new (Some name) ls same h =
    subst (λ file. IfSome file (λ text. IsOmissionText text ls)) (same name.now) h

pub no_lines_as : (old new : Files) (o : Option (Bor (List ℕ))) (r : Refusal)
    → ((name : List ℕ) → new name ≡ old name) → HasNoLines new o r → HasNoLines old o r
no_lines_as old new None r same h = h
no_lines_as old new (Some name) r same h = subst (λ file. HasNoOmissions file r) (same name.now) h

-- why the command is refused
module _ (from : Source) (files : Files) (header : Bor (List ℕ)) (correct : Vec ℕ) (delta gst : ℕ)
    (delays orders : Vec ℕ) (ticks : Option ℕ) (changes : Changes) (t : Terms)
    (same : t ≡ terms_by correct delta gst delays orders ticks changes) where
  unmade : (r : Refusal)
      → IsUnmade from files (files header.now) changes.omissions t r
      → IsUnmade from files (files header.now) changes.omissions
      (terms_by correct delta gst delays orders ticks changes) r
  unmade r h =
      subst (λ (x : Terms). IsUnmade from files (files header.now) changes.omissions x r) same h

  pub lockstep_refused : (r : Refusal)
      → IsRefusedLockstep from files (files header.now) changes.omissions t r
      → IsRefusedCommand
      (words.Lockstep from header correct delta gst delays orders ticks changes) files r
  lockstep_refused refusal.Write (made, h) = (
    files,
    made,
    subst
        (λ (x : Terms). MakesLockstep from files (files header.now) changes.omissions x made)
        same h,
  )
  lockstep_refused refusal.NodeNoMemory h = absurd
      (not_last from files (files header.now) changes.omissions t refusal.NodeNoMemory last_nodes
      (λ p u k ls none. none) h)
  lockstep_refused (refusal.Words f) h = unmade (refusal.Words f) h
  lockstep_refused refusal.File h = unmade refusal.File h
  lockstep_refused (refusal.Source f) h = unmade (refusal.Source f) h
  lockstep_refused (refusal.Check f) h = unmade (refusal.Check f) h
  lockstep_refused (refusal.Condition f) h = unmade (refusal.Condition f) h
  lockstep_refused (refusal.Schedule f) h = unmade (refusal.Schedule f) h
  lockstep_refused (refusal.Library f) h = unmade (refusal.Library f) h
  lockstep_refused refusal.NoSuchProgram h = unmade refusal.NoSuchProgram h
  lockstep_refused (refusal.Part cause) h = unmade (refusal.Part cause) h
  lockstep_refused (refusal.Trace f) h = unmade (refusal.Trace f) h
  lockstep_refused refusal.NoVariable h = unmade refusal.NoVariable h
  lockstep_refused (refusal.Run f) h = unmade (refusal.Run f) h
  lockstep_refused refusal.NoMemory h = unmade refusal.NoMemory h
