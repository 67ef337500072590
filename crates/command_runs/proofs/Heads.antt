-- The first line of a part, from the text of its source.
use Rattle.std.proofs.Common.{◌≡◌, ◌∙◌, ℕ, List, None, Option, Some, ap, inl, inr, subst, sym}
use Rattle.std.specs.Prelude.{IfSome, string_bytes}
use Rattle.algorithm_library.specs.declared.fault.LibraryFault.TheVariants as library
use Rattle.command_runs.specs.InParts.{IsDigestOf, IsHeadFor, IsHeadOf, IsQuestionOf}
use Rattle.command_runs.specs.InParts.{IsTextOfProgram}
use Rattle.command_runs.specs.Library.{OffersText}
use Rattle.command_runs.specs.Refused.{IsNoOffer, IsNoProgram, IsOpened, IsUnexplored}
use Rattle.command_runs.specs.Served.{HoldsProgram, HoldsSourceText, IsHeader, Opens}
use Rattle.command_runs.specs.Sources.{IsTextOfSource, ShowsSource, SpellsTyped, file_name}
use Rattle.command_runs.specs.Texts.{Files, HoldsWhole}
use Rattle.command_runs.specs.Unshown.{HasNoSourceText, OffersNoText}
use Rattle.command_runs.specs.declared.refusal.Refusal.{Refusal}
use Rattle.command_runs.specs.declared.refusal.Refusal.TheVariants as refusal
use Rattle.command_runs.specs.declared.sources.Opened.{Opened}
use Rattle.command_runs.specs.declared.sources.Opened.TheVariants as opened
use Rattle.command_runs.specs.declared.sources.SourceText.{SourceText}
use Rattle.command_runs.specs.declared.sources.SourceText.TheVariants as kept
use Rattle.command_words.specs.declared.exploring.Exploring.{Exploring}
use Rattle.command_words.specs.declared.searching.PartChoice.{PartChoice}
use Rattle.command_words.specs.declared.values.Source.{Source}
use Rattle.command_words.specs.declared.values.Source.TheVariants as source
use Rattle.part_answers.specs.declared.part.PartHead.{PartHead}
use Rattle.round_lang.specs.Limits.{max_text}
use Rattle.round_lang.specs.Syntax.{ProgramTree}
use Rattle.round_meaning.specs.declared.setup.Setup.{Setup}
use Rattle.run_events.specs.declared.plan_kind.PlanKind.{PlanKind}

-- ---- the text of the program is the source's

shows_text : (s : Source) (files : Files) (o : Opened) (kept : SourceText) (n t : ℕ)
    (p : ProgramTree) (text : List ℕ) → Opens s files o → HoldsProgram o n t p
    → HoldsSourceText o kept → IsTextOfSource kept text
    → ShowsSource s files text × IsTextOfProgram s text p
shows_text (source.File name) files (opened.File q own) (kept.File read) n t p text opens is same
    of =
    let bytes : string_bytes own ≡ text = ap string_bytes (sym same) ∙ sym of in (
      subst (HoldsWhole max_text (files (file_name name.now))) bytes opens.0,
      subst (λ (r : ProgramTree). SpellsTyped text r) (sym is)
          (subst (λ (t : List ℕ). SpellsTyped t q) bytes opens.1),
    )
shows_text (source.Library name values) files (opened.Library m k) (kept.Library l j) n t p text
    opens is same of =
    let name_is : l.now ≡ name.now = ap (λ b. b.now) (same.0 ∙ opens.0) in (
      subst (λ x. OffersText x values text) name_is
          (subst (λ k. OffersText l.now k text) (same.1 ∙ opens.1) of),
      tt,
    )
shows_text (source.File name) files (opened.Library m k) kept n t p text opens is same of =
    absurd opens
shows_text (source.Library name values) files (opened.File q own) kept n t p text opens is same
    of =
    absurd opens
shows_text (source.File name) files (opened.File q own) (kept.Library l j) n t p text opens is same
    of =
    absurd same
shows_text (source.Library name values) files (opened.Library m k) (kept.File read) n t p text
    opens is same of =
    absurd same

module _ (s : Source) (files : Files) (o : Opened) (kept : SourceText) (n t : ℕ) (p : ProgramTree)
    (opens : Opens s files o) (is : HoldsProgram o n t p) (same : HoldsSourceText o kept)
    (u : Setup) (e : Exploring) where
  head_by : (choice : Option PartChoice) (head : Option PartHead)
      → IsHeadFor choice (λ q. (bytes : List ℕ) × IsTextOfSource kept bytes
      × IsDigestOf bytes u e q) head
      → IsHeadFor choice (IsQuestionOf s files u p e) head
  head_by None None h = h
  head_by None (Some head) h = h
  head_by (Some choice) None h = h
  head_by (Some choice) (Some head) (part, (text, of, digest)) =
      let shown = shows_text s files o kept n t p text opens is same of in
      (part, (text, shown.0, shown.1, digest))

  pub headed : (head : Option PartHead)
      → IsHeadFor e.part (λ q. (bytes : List ℕ) × IsTextOfSource kept bytes
      × IsDigestOf bytes u e q) head
      → IsHeadOf s files u p e head
  headed head h = head_by e.part head h

-- ---- a source that has no text is refused as one that isn't opened or offered

no_offer : (name : List ℕ) (k n t : ℕ) (r : Refusal) → OffersNoText name k r
    → IsNoOffer name k n t r
no_offer name k n t refusal.NoSuchProgram none = (
  (λ plain. elim plain [ inl is ↦ none (inl is) | inr is ↦ none (inr (inl is)) ]),
  (λ is. none (inr (inr is))),
)
no_offer name k n t (refusal.Library library.BadValues) (inl is, none) = inl (inl is, none)
no_offer name k n t (refusal.Library library.BadValues) (inr (inl is), none) =
    inl (inr is, none)
no_offer name k n t (refusal.Library library.BadValues) (inr (inr is), none) =
    inr (is, λ within. none within.count)
no_offer name k n t refusal.NoMemory h = tt
no_offer name k n t r h = absurd h

pub head_refused : (s : Source) (files : Files) (file : Option (List ℕ)) (e : Exploring)
    (u : Setup) (k : PlanKind) (o : Opened) (kept : SourceText) → IsOpened s files
    → IfSome file (λ text. IsHeader text u k) → Opens s files o → HoldsSourceText o kept
    → (r : Refusal) → HasNoSourceText kept r → IsUnexplored s files file e r
head_refused (source.File name) files file e u k o (kept.File text) opened read opens same r h =
    inl (subst (IsNoProgram (files (file_name name.now))) (sym h) tt)
head_refused (source.Library name values) files file e u k (opened.Library m v) (kept.Library l j)
    opened read opens same r h =
    let name_is : l.now ≡ name.now = ap (λ b. b.now) (same.0 ∙ opens.0) in
    let none : OffersNoText name.now values r =
    subst (λ x. OffersNoText x values r) name_is
    (subst (λ k. OffersNoText l.now k r) (same.1 ∙ opens.1) h) in
    inr (inr (opened, (u, k, tt, read, inl (no_offer name.now values u.nodes u.faults r none))))
head_refused (source.File name) files file e u k (opened.File p own) (kept.Library l j) opened read
    opens same r h =
    absurd same
head_refused (source.File name) files file e u k (opened.Library m v) (kept.Library l j) opened read
    opens same r h =
    absurd opens
head_refused (source.Library name values) files file e u k (opened.File p own) kept opened read
    opens same r h =
    absurd opens
head_refused (source.Library name values) files file e u k (opened.Library m v) (kept.File text)
    opened read opens same r h =
    absurd same
