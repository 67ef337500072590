-- From what is read of files with the answers of parts to what they make together.
use Rattle.std.proofs.Common.{◌≡◌, ◌≢◌, ◌∙◌, ◌+◌, ◌<◌, ◌≤◌, ◌++◌, ◌∷◌, [], ℕ, List, None, Option}
use Rattle.std.proofs.Common.{Some, arith, inl, inr, length, refl, subst, suc, sym, take}
use Rattle.std.proofs.Common.{zero}
use Rattle.std.specs.Borrow.{Bor}
use Rattle.std.specs.Global.{Vec}
use Rattle.std.specs.List.{AllZip}
use Rattle.std.specs.Prelude.{IfSome, ◌⊎◌}
use Rattle.std.proofs.lemmas.List.{take_all}
use Rattle.command_runs.specs.InParts.{HoldParts, HoldsPart, IsFirstWithout, name_at}
use Rattle.command_runs.specs.Refused.{IsNotTogether, IsRefusedCommand, IsRefusedTogether}
use Rattle.command_runs.specs.Stages.{IsBadPart, IsPartless}
use Rattle.command_runs.specs.Texts.{Files, HoldsNoWhole, HoldsWhole}
use Rattle.command_runs.specs.declared.part_refusal.PartRefusal.TheVariants as part
use Rattle.command_runs.specs.declared.refusal.Refusal.{Refusal}
use Rattle.command_runs.specs.declared.refusal.Refusal.TheVariants as refusal
use Rattle.command_runs.specs.declared.texts.Unfit.TheVariants as unfit
use Rattle.command_words.specs.declared.words.Words.TheVariants as words
use Rattle.part_answers.specs.Answers.{answers_text}
use Rattle.part_answers.specs.Parts.{IsWellFormed, part_text}
use Rattle.part_answers.specs.declared.part.PartAnswers.{PartAnswers}
use Rattle.round_lang.specs.Limits.{max_text}
use Rattle.schedule_text.specs.Bytes.{IsLongText, IsNoText}

-- ---- one file

pub part_held : (file : Option (List ℕ)) (text : List ℕ) (p : PartAnswers)
    → HoldsWhole max_text file text → (text ≡ part_text p) × IsWellFormed p → HoldsPart file p
part_held None text p whole h = tt
part_held (Some held) text p (fits, same) (is, well) = (fits, sym same ∙ is, well)

no_part_held : (file : Option (List ℕ)) (text : List ℕ) → HoldsWhole max_text file text
    → ((p : PartAnswers) → IsWellFormed p → text ≢ part_text p)
    → IfSome file (λ held. (p : PartAnswers) → IsWellFormed p → held ≢ part_text p)
no_part_held None text whole none = tt
no_part_held (Some held) text (fits, same) none = λ p well is. none p well (same ∙ is)

-- a text that is none of a part's is so in its file
pub partless : (place : ℕ) (file : Option (List ℕ)) (text : List ℕ) (r : Refusal)
    → HoldsWhole max_text file text → IsBadPart place text r → IsPartless place file r
partless place file text (refusal.Part (part.Line k n)) whole (is, none) =
    (is, no_part_held file text whole none)
partless place file text refusal.NoMemory whole h = tt
partless place file text r whole h = absurd h

pub no_text : (file : Option (List ℕ)) → HoldsNoWhole max_text file unfit.NoText
    → IfSome file (λ held. IsNoText max_text held ⊎ IsLongText max_text held)
no_text None h = tt
no_text (Some held) h = inl h

pub long_text : (file : Option (List ℕ)) → HoldsNoWhole max_text file unfit.TooLong
    → IfSome file (λ held. IsNoText max_text held ⊎ IsLongText max_text held)
long_text None h = tt
long_text (Some held) h = inr h

-- ---- one file after another

module _ (files : Files) where
  abbrev pub Holds : Bor (List ℕ) → PartAnswers → Type 0
  Holds name p = HoldsPart (files name.now) p

  holds_more : (names : List (Bor (List ℕ))) (parts : List PartAnswers) (i : ℕ)
      (p : PartAnswers) → i < length names → AllZip Holds (take i names) parts
      → HoldsPart (files (name_at names i)) p
      → AllZip Holds (take (suc i) names) (parts ++ p ∷ [])
  holds_more [] parts i p lt all one = absurd (omega (arith, lt))
  holds_more (n ∷ ns) [] zero p lt all one = (one, tt)
  holds_more (n ∷ ns) (q ∷ qs) zero p lt all one = absurd all
  holds_more (n ∷ ns) [] (suc i) p lt all one = absurd all
  holds_more (n ∷ ns) (q ∷ qs) (suc i) p lt all one =
      (all.0, holds_more ns qs i p (omega (arith, lt)) all.1 one)

  -- with one file more, whose part comes behind the others
  pub one_more : (names : List (Bor (List ℕ))) (parts new : List PartAnswers) (i : ℕ)
      (p : PartAnswers) → i < length names → AllZip Holds (take i names) parts
      → HoldsPart (files (name_at names i)) p → new ≡ parts ++ p ∷ []
      → AllZip Holds (take (i + 1) names) new
  one_more names parts new i p lt all one made =
      let next : suc i ≡ i + 1 = omega arith in
      subst (λ j. AllZip Holds (take j names) new) next
      (subst (AllZip Holds (take (suc i) names)) (sym made)
      (holds_more names parts i p lt all one))

  pub holds_all : (names : List (Bor (List ℕ))) (parts : List PartAnswers) (i : ℕ)
      → length names ≤ i → AllZip Holds (take i names) parts → HoldParts files names parts
  holds_all names parts i all h = subst (λ ns. AllZip Holds ns parts) (take_all i names all) h

  holds_at : (names : List (Bor (List ℕ))) (parts : List PartAnswers) (i k : ℕ) → k < i
      → i ≤ length names → AllZip Holds (take i names) parts
      → (p : PartAnswers) × HoldsPart (files (name_at names k)) p
  holds_at [] parts i k lt few all = absurd (omega (arith, lt, few))
  holds_at (n ∷ ns) parts zero k lt few all = absurd (omega (arith, lt))
  holds_at (n ∷ ns) [] (suc i) k lt few all = absurd all
  holds_at (n ∷ ns) (p ∷ ps) (suc i) zero lt few all = (p, all.0)
  holds_at (n ∷ ns) (p ∷ ps) (suc i) (suc k) lt few all =
      holds_at ns ps i k (omega (arith, lt)) (omega (arith, few)) all.1

  first_without : (names : List (Bor (List ℕ))) (parts : List PartAnswers) (i : ℕ)
      → i < length names → AllZip Holds (take i names) parts → IsFirstWithout files names i
  first_without names parts i lt all = record {
    within = lt;
    before = λ k below. holds_at names parts i k below (omega (arith, lt)) all;
  }

  -- the first file without a part's answers is why the files make no whole
  pub not_together : (names : List (Bor (List ℕ))) (parts : List PartAnswers) (i : ℕ)
      (r : Refusal) → i < length names → AllZip Holds (take i names) parts
      → IsPartless i (files (name_at names i)) r → IsNotTogether files names r
  not_together names parts i refusal.File lt all h =
      (i, first_without names parts i lt all, h)
  not_together names parts i (refusal.Part (part.Line k n)) lt all (same, h) =
      subst (λ j. IsFirstWithout files names j
      × IfSome (files (name_at names j))
      (λ held. (p : PartAnswers) → IsWellFormed p → held ≢ part_text p)) (sym same)
      (first_without names parts i lt all, h)
  not_together names parts i refusal.NoMemory lt all h = tt
  not_together names parts i r lt all h = absurd h

-- ---- the command

-- why nothing is told of the parts is why the command is refused
pub together_refused : (files : Files) (names : Vec (Bor (List ℕ))) (r : Refusal)
    → IsRefusedTogether files names.items r → IsRefusedCommand (words.Together names) files r
together_refused files names refusal.Write (whole, makes) =
    ((λ name. None), answers_text whole, (whole, makes, refl))
together_refused files names refusal.NodeNoMemory h = h
together_refused files names (refusal.Words f) h = h
together_refused files names refusal.File h = h
together_refused files names (refusal.Source f) h = h
together_refused files names (refusal.Check f) h = h
together_refused files names (refusal.Condition f) h = h
together_refused files names (refusal.Schedule f) h = h
together_refused files names (refusal.Library f) h = h
together_refused files names refusal.NoSuchProgram h = h
together_refused files names (refusal.Run f) h = h
together_refused files names (refusal.Part cause) h = h
together_refused files names (refusal.Trace f) h = h
together_refused files names refusal.NoVariable h = h
together_refused files names refusal.NoMemory h = h
