-- Numbers and words in a line.
use Rattle.std.specs.Prelude.{◌≡◌, ℕ, ◌+◌, ◌-◌, ◌*◌, Bool, true, false, ◌&&◌, ◌==◌, List, [], ◌∷◌}
use Rattle.std.specs.Prelude.{fold}
use Rattle.std.specs.List.{list_all, slice_split}
use Rattle.std.specs.Char.{is_ascii_digit}

-- a number is decimal digits, one at least
abbrev pub is_number : List ℕ → Bool
is_number [] = false
is_number (b ∷ bs) = is_ascii_digit b && list_all is_ascii_digit bs

-- what decimal digits spell
abbrev pub value_of : List ℕ → ℕ
value_of digits = fold (λ n b. 10 * n + (b - 48)) 0 digits

-- the word is a number, and spells v
pub record IsNumeral (word : List ℕ) (v : ℕ) : Type 0 where
  pub digits : is_number word ≡ true
  pub value : value_of word ≡ v

-- the words of a text, separated by single spaces
abbrev pub words_of : List ℕ → List (List ℕ)
words_of text = slice_split (λ b. b == 32) text

-- the largest number of a line
abbrev pub max_number : ℕ
max_number = 4294967295
