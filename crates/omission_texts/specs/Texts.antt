-- What a text says. Its lines are those of the standard library: LF ends a line, the last may lack
-- it, and a CR before it is dropped.
use Rattle.std.specs.Prelude.{◌≡◌, ℕ, ◌≤◌, ◌⊎◌, ◌==◌, All, List, [], ◌∷◌, codes, filter, length}
use Rattle.std.specs.List.{AllZip, slice_split}
use Rattle.std.specs.Str.Lines.{lines}
use Rattle.schedule_text.specs.Numbers.{IsNumeral, max_number, words_of}
use Rattle.schedule_text.specs.Texts.{counts, max_text}
use Rattle.omission_texts.specs.declared.line.OmissionLine.{OmissionLine}
use Rattle.omission_texts.specs.declared.line.OmissionLine.TheVariants.{Omit, Cut, Crash}
use Rattle.omission_texts.specs.declared.line.RoundRange.{RoundRange}

-- what a word of a line says: a word of the form, a number, rounds or a list of nodes
pub data Word : Type 0 where
  plain : List ℕ → Word
  number : ℕ → Word
  rounds : RoundRange → Word
  nodes : List ℕ → Word

-- the words of a line that says this
abbrev pub words_for : OmissionLine → List Word
words_for (Omit i rs j) = plain (codes "omit") ∷ number i ∷ rounds rs ∷ number j ∷ []
words_for (Cut list rs) = plain (codes "cut") ∷ nodes list ∷ rounds rs ∷ []
words_for (Crash j r list) = plain (codes "crash") ∷ number j ∷ number r ∷ nodes list ∷ []

-- the word is these numbers in digits, with this byte between them
abbrev pub AreNumerals : (mark : ℕ) → List ℕ → List ℕ → Type 0
AreNumerals mark word vs = AllZip IsNumeral (slice_split (λ b. b == mark) word) vs

-- the word is a round, or a first and a last one with `-`, which is 45, between them
abbrev pub AreRounds : List ℕ → RoundRange → Type 0
AreRounds word rs =
    (IsNumeral word rs.first × (rs.last ≡ rs.first))
    ⊎ AreNumerals 45 word (rs.first ∷ rs.last ∷ [])

-- the word is `-` for no nodes, or nodes with commas, which are 44, between them
abbrev pub AreNodes : List ℕ → List ℕ → Type 0
AreNodes word list = ((word ≡ codes "-") × (list ≡ [])) ⊎ AreNumerals 44 word list

-- how a word is spelt
abbrev pub IsSpelt : List ℕ → Word → Type 0
IsSpelt word (plain text) = word ≡ text
IsSpelt word (number v) = IsNumeral word v
IsSpelt word (rounds rs) = AreRounds word rs
IsSpelt word (nodes list) = AreNodes word list

-- the line has the form of one that says this: its words, separated by single spaces, are spelt so
abbrev pub HasForm : List ℕ → OmissionLine → Type 0
HasForm line said = AllZip IsSpelt (words_of line) (words_for said)

-- the numbers of what it says
abbrev pub numbers_of : OmissionLine → List ℕ
numbers_of (Omit i rs j) = i ∷ rs.first ∷ rs.last ∷ j ∷ []
numbers_of (Cut list rs) = rs.first ∷ rs.last ∷ list
numbers_of (Crash j r list) = j ∷ r ∷ list

-- no number of it is above the largest
abbrev pub HasSmallNumbers : OmissionLine → Type 0
HasSmallNumbers said = All (λ v. v ≤ max_number) (numbers_of said)

-- the line says this: it has the form, and no number is too large
pub record Tells (line : List ℕ) (said : OmissionLine) : Type 0 where
  pub form : HasForm line said
  pub small : HasSmallNumbers said

-- the text says this: it isn't too long, and its lines that count say just this, in order
pub record Says (text : List ℕ) (said : List OmissionLine) : Type 0 where
  pub short : length text ≤ max_text
  pub each : AllZip Tells (filter counts (lines text)) said
