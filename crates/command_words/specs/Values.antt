-- The texts of SOURCE, LIST, RANGE and numbers, which `clap` passes on as they were written.
use Rattle.std.specs.Prelude.{◌≡◌, ◌≢◌, ◌++◌, ◌∷◌, ◌==◌, ◌&&◌, ◌||◌, ◌<◌, ◌≤◌, ◌^◌, [], ℕ, Bool}
use Rattle.std.specs.Prelude.{IsTrue, List, codes, false, min, ⊤}
use Rattle.std.specs.Char.{is_ascii_alphabetic, is_ascii_alphanumeric, is_ascii_digit}
use Rattle.std.specs.List.{list_all, slice_split}
use Rattle.std.specs.Str.Parse.{IsNumeral, digits_value}
use Rattle.clap.specs.Words.{Text}
use Rattle.command_words.specs.declared.drawing.RoundRange.{RoundRange}
use Rattle.command_words.specs.declared.forms.AnswerFormat.{AnswerFormat}
use Rattle.command_words.specs.declared.forms.AnswerFormat.TheVariants as answer_format
use Rattle.command_words.specs.declared.forms.Blocks.{Blocks}
use Rattle.command_words.specs.declared.forms.Blocks.TheVariants as blocks
use Rattle.command_words.specs.declared.forms.Format.{Format}
use Rattle.command_words.specs.declared.forms.Format.TheVariants as format
use Rattle.command_words.specs.declared.values.Source.{Source}
use Rattle.command_words.specs.declared.words.WordsFault.{WordsFault}
use Rattle.command_words.specs.declared.words.WordsFault.TheVariants as fault
use Rattle.command_words.specs.declared.values.Source.TheVariants.{File, Library}

-- `@`
abbrev pub at_sign : ℕ
at_sign = 64

-- `:`
abbrev pub colon : ℕ
colon = 58

abbrev pub is_colon : ℕ → Bool
is_colon b = b == colon

-- a letter or `_`, which is 95
abbrev pub begins_name : ℕ → Bool
begins_name b = is_ascii_alphabetic b || b == 95

-- a letter, a digit or `_`
abbrev pub continues_name : ℕ → Bool
continues_name b = is_ascii_alphanumeric b || b == 95

-- an identifier, of any length
abbrev pub is_name : Text → Bool
is_name [] = false
is_name (b ∷ rest) = begins_name b && list_all continues_name rest

-- a file's name is any text that doesn't begin with `@`; a program of the library is `@`, a name,
-- `:` and one or more digits, and the number that they write is cut to the largest of 32 bits
abbrev pub SourceText : Text → Source → Type 0
SourceText text (File name) = (name.now ≡ text) × ((rest : Text) → text ≢ at_sign ∷ rest)
SourceText text (Library name values) = (digits : Text)
    × (text ≡ at_sign ∷ name.now ++ colon ∷ digits) × IsTrue (is_name name.now)
    × IsNumeral 10 digits × (values ≡ min (digits_value 10 digits) 4294967295)

-- one or more decimal digits and no sign, which write a number of 32 bits
pub record NumberText (text : Text) (n : ℕ) : Type 0 where
  pub digits : IsNumeral 10 text
  pub value : n ≡ digits_value 10 text
  pub small : n < 2 ^ 32

-- `-`
abbrev pub dash : ℕ
dash = 45

abbrev pub is_dash : ℕ → Bool
is_dash b = b == dash

-- two numbers of 1 on with `-` between them, of which the first is no larger than the last
abbrev pub RangeText : Text → RoundRange → Type 0
RangeText text r = (first : Text) × (last : Text) × (text ≡ first ++ dash ∷ last)
    × NumberText first r.first × NumberText last r.last × (1 ≤ r.first) × (r.first ≤ r.last)

-- a report's format
abbrev pub FormatText : Text → Format → Type 0
FormatText text format.Text = text ≡ codes "text"
FormatText text format.Json = text ≡ codes "json"
FormatText text format.Table = text ≡ codes "table"
FormatText text format.Summary = text ≡ codes "summary"
FormatText text format.Omissions = text ≡ codes "omissions"

-- the format of an answer that is no report
abbrev pub AnswerFormatText : Text → AnswerFormat → Type 0
AnswerFormatText text answer_format.Text = text ≡ codes "text"
AnswerFormatText text answer_format.Json = text ≡ codes "json"

-- what a table's blocks are
abbrev pub BlocksText : Text → Blocks → Type 0
BlocksText text blocks.Rounds = text ≡ codes "round"
BlocksText text blocks.Nodes = text ≡ codes "node"

-- `-` and then a digit
abbrev pub begins_digit : Text → Bool
begins_digit [] = false
begins_digit (b ∷ rest) = is_ascii_digit b

abbrev pub is_negative : Text → Bool
is_negative [] = false
is_negative (b ∷ rest) = (b == 45) && begins_digit rest

abbrev pub is_comma : ℕ → Bool
is_comma b = b == 44

-- each text is a number's
abbrev pub AreNumbers : List Text → List ℕ → Type 0
AreNumbers [] [] = ⊤
AreNumbers [] (n ∷ ns) = ⊥
AreNumbers (text ∷ texts) [] = ⊥
AreNumbers (text ∷ texts) (n ∷ ns) = NumberText text n × AreNumbers texts ns

-- the texts between the commas are the numbers'
abbrev pub ListText : Text → List ℕ → Type 0
ListText text ns = AreNumbers (slice_split is_comma text) ns

-- the text is no list of numbers, or there was no memory for it
abbrev pub IsNoList : Text → WordsFault → Type 0
IsNoList text fault.List = (ns : List ℕ) → ¬ (ListText text ns)
IsNoList text fault.NoMemory = ⊤
IsNoList text _ = ⊥
