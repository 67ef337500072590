-- What words and lines say, as the reader finds it. Only proofs pass through here.
use Rattle.std.specs.Prelude.{◌≡◌, ⊤, ℕ, ◌+◌, length, nat_le, nat_lt, ◌==◌, ◌&&◌, ◌||◌, Bool, false}
use Rattle.std.specs.Prelude.{if◌then◌else◌, List, [], ◌∷◌, ◌++◌, map, Result, Ok, Err, codes}
use Rattle.std.specs.Global.{Vec}
use Rattle.std.specs.List.{list_all, slice_split}
use Rattle.std.specs.Str.{bytes_eq}
use Rattle.std.specs.Str.Lines.{lines}
use Rattle.schedule_text.specs.Texts.{counts, max_text}
use Rattle.omission_texts.specs.Readings.{Answer}
use Rattle.schedule_text.specs.Numbers.{is_number, max_number, value_of, words_of}
use Rattle.schedule_text.specs.declared.fault.ScheduleFault.{ScheduleFault}
use Rattle.schedule_text.specs.declared.fault.ScheduleFault.TheVariants as fault
use Rattle.omission_texts.specs.declared.fault.LineFault.{LineFault}
use Rattle.omission_texts.specs.declared.fault.LineFault.TheVariants as line
use Rattle.omission_texts.specs.declared.line.OmissionLine.{OmissionLine}
use Rattle.omission_texts.specs.declared.line.OmissionLine.TheVariants.{Omit, Cut, Crash}
use Rattle.omission_texts.specs.declared.line.RoundRange.{RoundRange}

-- a line's fault, with the line's number
abbrev pub at_line : ℕ → LineFault → ScheduleFault
at_line k line.Bad = fault.BadLine k
at_line k line.Large = fault.NumberTooLarge k
at_line k line.NoMemory = fault.NoMemory

-- each of these numbers is at most the largest
abbrev pub are_small : List ℕ → Bool
are_small vs = list_all (λ v. nat_le v max_number) vs

-- what is made of numbers, if each is at most the largest
abbrev pub sized : {T : Type 0} → List ℕ → T → Result T LineFault
sized vs x = if are_small vs then Ok x else Err line.Large

-- what is made of numbers, if the words have that form
abbrev pub formed : {T : Type 0} → Bool → List ℕ → T → Result T LineFault
formed has_form vs x = if has_form then sized vs x else Err line.Bad

-- the number of a word of digits
abbrev pub number_in : List ℕ → Result ℕ LineFault
number_in word = sized (value_of word ∷ []) (value_of word)

-- the parts of a word between these marks
abbrev pub parts_of : (mark : ℕ) → List ℕ → List (List ℕ)
parts_of mark word = slice_split (λ b. b == mark) word

-- one or two numbers
abbrev pub are_ends : List (List ℕ) → Bool
are_ends [] = false
are_ends (a ∷ []) = is_number a
are_ends (a ∷ b ∷ []) = is_number a && is_number b
are_ends (a ∷ b ∷ c ∷ ws) = false

-- the rounds from the first of these numbers to the second, or of the one
abbrev pub rounds_at : List (List ℕ) → RoundRange
rounds_at [] = record { first = 0; last = 0 }
rounds_at (a ∷ []) = record { first = value_of a; last = value_of a }
rounds_at (a ∷ b ∷ ws) = record { first = value_of a; last = value_of b }

-- the word is a round, or a first and a last one
abbrev pub are_rounds : List ℕ → Bool
are_rounds word = are_ends (parts_of 45 word)

-- the rounds of a word
abbrev pub rounds_of : List ℕ → RoundRange
rounds_of word = rounds_at (parts_of 45 word)

abbrev pub sized_rounds : RoundRange → Result RoundRange LineFault
sized_rounds rs = sized (rs.first ∷ rs.last ∷ []) rs

-- the same, if each number fits
abbrev pub rounds_in : List ℕ → Result RoundRange LineFault
rounds_in word = sized_rounds (rounds_of word)

-- the word is nodes with commas between them, or `-`
abbrev pub are_nodes : List ℕ → Bool
are_nodes word = bytes_eq word (codes "-") || list_all is_number (parts_of 44 word)

-- the nodes of a word
abbrev pub nodes_of : List ℕ → List ℕ
nodes_of word = if bytes_eq word (codes "-") then [] else map value_of (parts_of 44 word)

-- the numbers of words of digits, if each fits
abbrev pub numbers_in : List (List ℕ) → Result (List ℕ) LineFault
numbers_in words = sized (map value_of words) (map value_of words)

abbrev pub nodes_in : List ℕ → Result (List ℕ) LineFault
nodes_in word = sized (nodes_of word) (nodes_of word)

-- a line `omit I R J` with these words behind its first
abbrev pub omit_in : (i r j : List ℕ) → Result OmissionLine LineFault
omit_in i r j = formed (is_number i && (are_rounds r && is_number j))
    (value_of i ∷ (rounds_of r).first ∷ (rounds_of r).last ∷ value_of j ∷ [])
    (Omit (value_of i) (rounds_of r) (value_of j))

-- a line `cut LIST R`
abbrev pub cut_in : (l r : List ℕ) → Result OmissionLine LineFault
cut_in l r = formed (are_nodes l && are_rounds r)
    ((rounds_of r).first ∷ (rounds_of r).last ∷ nodes_of l) (Cut (nodes_of l) (rounds_of r))

-- a line `crash J R LIST`
abbrev pub crash_in : (j r l : List ℕ) → Result OmissionLine LineFault
crash_in j r l = formed (is_number j && (is_number r && are_nodes l))
    (value_of j ∷ value_of r ∷ nodes_of l) (Crash (value_of j) (value_of r) (nodes_of l))

-- a line of four words
abbrev pub four_in : (w a b c : List ℕ) → Result OmissionLine LineFault
four_in w a b c =
    if bytes_eq w (codes "omit") then omit_in a b c
    else if bytes_eq w (codes "crash") then crash_in a b c
    else Err line.Bad

-- a line of three words
abbrev pub three_in : (w a b : List ℕ) → Result OmissionLine LineFault
three_in w a b = if bytes_eq w (codes "cut") then cut_in a b else Err line.Bad

-- what a line with these words says
abbrev pub words_in : List (List ℕ) → Result OmissionLine LineFault
words_in (w ∷ a ∷ b ∷ []) = three_in w a b
words_in (w ∷ a ∷ b ∷ c ∷ []) = four_in w a b c
words_in _ = Err line.Bad

-- what a line says
unfoldable pub line_in : List ℕ → Result OmissionLine LineFault
line_in text = words_in (words_of text)

-- only memory excuses another answer than this
abbrev pub Gives : {T : Type 0} → Result T LineFault → Result T LineFault → Type 0
Gives (Ok x) said = said ≡ Ok x
Gives (Err line.NoMemory) said = ⊤
Gives (Err e) said = said ≡ Err e

-- nor other items
abbrev pub GivesItems : Result (Vec ℕ) LineFault → Result (List ℕ) LineFault → Type 0
GivesItems (Ok v) said = said ≡ Ok v.items
GivesItems (Err line.NoMemory) said = ⊤
GivesItems (Err e) said = said ≡ Err e

-- what a line says, before what the lines behind it say
abbrev pub behind : ℕ → Result OmissionLine LineFault → Answer → Answer
behind k (Ok x) (Ok xs) = Ok (x ∷ xs)
behind k (Ok x) (Err e) = Err e
behind k (Err e) rest = Err (at_line k e)

-- what lines say of which the first has the number k
unfoldable pub from_line : ℕ → List (List ℕ) → Answer
from_line k [] = Ok []
from_line k (l ∷ ls) =
    if counts l then behind k (line_in l) (from_line (k + 1) ls) else from_line (k + 1) ls

-- what a text says: TooLong if it is that, or else what its lines say
unfoldable pub answer_of : List ℕ → Answer
answer_of text =
    if nat_lt max_text (length text) then Err fault.TooLong else from_line 1 (lines text)

-- the same, and only memory excuses another answer
abbrev pub GivesAnswer : Result (List OmissionLine) ScheduleFault → Answer → Type 0
GivesAnswer (Ok said) answer = answer ≡ Ok said
GivesAnswer (Err fault.NoMemory) answer = ⊤
GivesAnswer (Err e) answer = answer ≡ Err e

-- the same of a list that lies in memory
abbrev pub GivesLines : Result (Vec OmissionLine) ScheduleFault → Answer → Type 0
GivesLines (Ok said) answer = answer ≡ Ok said.items
GivesLines (Err fault.NoMemory) answer = ⊤
GivesLines (Err e) answer = answer ≡ Err e

-- lines that were said, and what is said behind them
abbrev pub ahead : List OmissionLine → Answer → Answer
ahead said (Ok xs) = Ok (said ++ xs)
ahead said (Err e) = Err e

-- what was said, and behind it what one line says
abbrev pub said_with :
    List OmissionLine → Result OmissionLine LineFault → Result (List OmissionLine) LineFault
said_with said (Ok x) = Ok (said ++ x ∷ [])
said_with said (Err e) = Err e

-- the same, if the line counts
abbrev pub said_by : List ℕ → List OmissionLine → Result (List OmissionLine) LineFault
said_by text said = if counts text then said_with said (line_in text) else Ok said

-- what the line says was added, and only memory excuses another fault
abbrev pub TakesLine : Result (Unit {0}) LineFault → List ℕ → (old new : List OmissionLine) → Type 0
TakesLine (Ok _) text old new = said_by text old ≡ Ok new
TakesLine (Err line.NoMemory) text old new = ⊤
TakesLine (Err e) text old new = said_by text old ≡ Err e
