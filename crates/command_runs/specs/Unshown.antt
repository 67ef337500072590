-- Why a source isn't shown.
use Rattle.std.specs.Prelude.{◌≡◌, ⊤, ℕ, IfSome, List, Option}
use Rattle.algorithm_library.specs.Refusals.{IsCount}
use Rattle.algorithm_library.specs.declared.fault.LibraryFault.TheVariants as library
use Rattle.command_runs.specs.Library.{IsLibraryName}
use Rattle.command_runs.specs.Sources.{file_name}
use Rattle.command_runs.specs.Texts.{Files}
use Rattle.command_runs.specs.declared.refusal.Refusal.{Refusal}
use Rattle.command_runs.specs.declared.refusal.Refusal.TheVariants as refusal
use Rattle.command_runs.specs.declared.sources.SourceText.{SourceText}
use Rattle.command_runs.specs.declared.sources.SourceText.TheVariants as kept
use Rattle.command_words.specs.declared.values.Source.{Source}
use Rattle.command_words.specs.declared.values.Source.TheVariants.{File, Library}
use Rattle.round_lang.specs.Limits.{max_text}
use Rattle.round_lang.specs.declared.fault.LangFault.TheVariants as lang
use Rattle.schedule_text.specs.Bytes.{IsLongText, IsNoText}

-- why there is no text in a source's file
abbrev pub HasNoSource : Option (List ℕ) → Refusal → Type 0
HasNoSource file refusal.File = IfSome file (IsNoText max_text)
HasNoSource file (refusal.Source lang.TooLong) = IfSome file (IsLongText max_text)
HasNoSource file refusal.NoMemory = ⊤
HasNoSource file _ = ⊥

-- why the library has no text under a name, for K values
abbrev pub OffersNoText : List ℕ → (values : ℕ) → Refusal → Type 0
OffersNoText name k refusal.NoSuchProgram = ¬ (IsLibraryName name)
OffersNoText name k (refusal.Library library.BadValues) = IsLibraryName name × (¬ (IsCount k))
OffersNoText name k refusal.NoMemory = ⊤
OffersNoText name k _ = ⊥

-- why a source isn't shown
abbrev pub IsUnshown : Source → Files → Refusal → Type 0
IsUnshown (File name) files r = HasNoSource (files (file_name name.now)) r
IsUnshown (Library name values) files r = OffersNoText name.now values r

-- why there is no text of a source that was opened
abbrev pub HasNoSourceText : SourceText → Refusal → Type 0
HasNoSourceText (kept.File text) r = r ≡ refusal.NoMemory
HasNoSourceText (kept.Library name values) r = OffersNoText name.now values r
