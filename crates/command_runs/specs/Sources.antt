-- Where the texts of sources are.
use Rattle.std.specs.Prelude.{◌≡◌, ℕ, List, codes, if◌then◌else◌, string_bytes, true}
use Rattle.std.specs.Str.{bytes_eq}
use Rattle.command_runs.specs.Library.{OffersText}
use Rattle.command_runs.specs.Texts.{Files, HoldsWhole}
use Rattle.command_runs.specs.declared.sources.SourceText.{SourceText}
use Rattle.command_runs.specs.declared.sources.SourceText.TheVariants as kept
use Rattle.command_words.specs.declared.values.Source.{Source}
use Rattle.command_words.specs.declared.values.Source.TheVariants.{File, Library}
use Rattle.round_check.specs.Causes.{is_typed}
use Rattle.round_lang.specs.Limits.{max_text}
use Rattle.round_lang.specs.Source.{IsSource}
use Rattle.round_lang.specs.Syntax.{ProgramTree}

-- a source file named `-` is reached by its folder, since `-` is standard input
abbrev pub file_name : List ℕ → List ℕ
file_name name = if bytes_eq name (codes "-") then codes "./-" else name

-- the text spells this program, every expression of which has its type
abbrev pub SpellsTyped : (text : List ℕ) → ProgramTree → Type 0
SpellsTyped text p = IsSource text p × (is_typed p ≡ true)

-- the text of a source: the file's, or that of the library's program
abbrev pub ShowsSource : Source → Files → List ℕ → Type 0
ShowsSource (File name) files text = HoldsWhole max_text (files (file_name name.now)) text
ShowsSource (Library name values) files text = OffersText name.now values text

-- the text of an opened source: as its file was read, or that of the library's program
abbrev pub IsTextOfSource : SourceText → List ℕ → Type 0
IsTextOfSource (kept.File text) bytes = bytes ≡ string_bytes text
IsTextOfSource (kept.Library name values) bytes = OffersText name.now values bytes
