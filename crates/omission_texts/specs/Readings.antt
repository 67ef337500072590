-- What reading a text answers: what it says, or the first line at fault.
use Rattle.std.specs.Prelude.{◌≡◌, ℕ, ◌+◌, ◌<◌, ◌≤◌, ◌⊎◌, ⊤, true, false, List, length, Result}
use Rattle.std.specs.Prelude.{Ok, Err}
use Rattle.std.specs.Str.Lines.{lines}
use Rattle.schedule_text.specs.Readings.{line_at}
use Rattle.schedule_text.specs.Texts.{counts, max_text}
use Rattle.schedule_text.specs.declared.fault.ScheduleFault.{ScheduleFault}
use Rattle.schedule_text.specs.declared.fault.ScheduleFault.TheVariants as fault
use Rattle.omission_texts.specs.Texts.{HasForm, HasSmallNumbers, Says, Tells}
use Rattle.omission_texts.specs.declared.line.OmissionLine.{OmissionLine}

-- nothing is wrong with a line: it doesn't count, or it says something
abbrev pub IsGood : List ℕ → Type 0
IsGood line = (counts line ≡ false) ⊎ ((said : OmissionLine) × Tells line said)

-- the line counts, and has no form
abbrev pub IsBad : List ℕ → Type 0
IsBad line = (counts line ≡ true) × ((said : OmissionLine) → ¬ HasForm line said)

-- the line counts, and has a form, but with a number above the largest
abbrev pub IsLarge : List ℕ → Type 0
IsLarge line =
    (counts line ≡ true) × ((said : OmissionLine) × HasForm line said × ¬ HasSmallNumbers said)

-- line n, counted from 1, is the first with which something is wrong, and this is
pub record IsFirst (Wrong : List ℕ → Type 0) (ls : List (List ℕ)) (n : ℕ) : Type 0 where
  pub index : ℕ
  pub number : n ≡ index + 1
  pub within : index < length ls
  pub before : (j : ℕ) → j < index → IsGood (line_at ls j)
  pub wrong : Wrong (line_at ls index)

-- what a text says, or a fault
abbrev pub Answer : Type 0
Answer = Result (List OmissionLine) ScheduleFault

-- the answer of reading a text, if there is memory: what it says, TooLong if it is that, or
-- else the first line at fault, with its number
abbrev pub IsReading : List ℕ → Answer → Type 0
IsReading text (Ok said) = Says text said
IsReading text (Err fault.TooLong) = max_text < length text
IsReading text (Err (fault.BadLine n)) =
    (length text ≤ max_text) × IsFirst IsBad (lines text) n
IsReading text (Err (fault.NumberTooLarge n)) =
    (length text ≤ max_text) × IsFirst IsLarge (lines text) n
IsReading text (Err fault.NoMemory) = ⊥

-- each text has a reading
abbrev pub TextsHaveReadings : Type 0
TextsHaveReadings = (text : List ℕ) → (answer : Answer) × IsReading text answer

-- no text has two readings
abbrev pub TextsHaveOneReading : Type 0
TextsHaveOneReading =
    (text : List ℕ) (a b : Answer) → IsReading text a → IsReading text b → a ≡ b

-- what was returned is the text's reading, and only memory excuses another answer
abbrev pub IsRead : List ℕ → Answer → Type 0
IsRead text (Err fault.NoMemory) = ⊤
IsRead text result = IsReading text result
