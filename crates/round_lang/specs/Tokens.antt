-- The tokens of a text: names, keywords, numbers and symbols, each as long as can be.
use Rattle.std.specs.Prelude.{◌≡◌, ℕ, ◌<◌, ◌≤◌, Bool, true, false, not, ◌&&◌, ◌||◌, ◌==◌}
use Rattle.std.specs.Prelude.{if◌then◌else◌, List, [], ◌∷◌, length, take, drop, Option, Some, None}
use Rattle.std.specs.Prelude.{IsNone, IsTrue}
use Rattle.std.specs.Char.{is_ascii_digit, is_ascii_alphabetic, is_ascii_alphanumeric}
use Rattle.std.specs.List.{list_all, prefix_len}
use Rattle.round_lang.specs.Lexemes.{Lexeme, name, number}
use Rattle.round_lang.specs.Keywords.{keyword, symbol}
use Rattle.round_lang.specs.Limits.{max_name}

-- space, tab, CR and LF
abbrev pub is_blank : ℕ → Bool
is_blank b = b == 32 || b == 9 || b == 13 || b == 10

-- a letter or _
abbrev pub begins_name : ℕ → Bool
begins_name b = is_ascii_alphabetic b || b == 95

-- a letter, a digit or _
abbrev pub is_in_name : ℕ → Bool
is_in_name b = is_ascii_alphanumeric b || b == 95

abbrev pub is_name : List ℕ → Bool
is_name [] = false
is_name (b ∷ bs) = begins_name b && list_all is_in_name bs

abbrev pub is_number : List ℕ → Bool
is_number [] = false
is_number (b ∷ bs) = is_ascii_digit b && list_all is_ascii_digit bs

-- a keyword is no name
abbrev pub word_of : List ℕ → Option Lexeme → Lexeme
word_of bs None = name bs
word_of bs (Some l) = l

-- a name: spelt as one, no keyword, and within the limit
pub record IsName (bs : List ℕ) : Type 0 where
  pub spelt : IsTrue (is_name bs)
  pub no_keyword : IsNone (keyword bs)
  pub short : length bs ≤ max_name

-- the token that these bytes spell, if they spell one
unfoldable pub lexeme : List ℕ → Option Lexeme
lexeme bs =
    if is_name bs then Some (word_of bs (keyword bs))
    else (if is_number bs then Some (number bs) else symbol bs)

-- the first n bytes are the token, and no more bytes are one
pub record IsLongest (text : List ℕ) (n : ℕ) (l : Lexeme) : Type 0 where
  pub within : n ≤ length text
  pub is : lexeme (take n text) ≡ Some l
  pub longest : (k : ℕ) → n < k → k ≤ length text → lexeme (take k text) ≡ None

-- what a line has left
abbrev pub line_len : List ℕ → ℕ
line_len bs = prefix_len (λ b. not (b == 10)) bs

-- the text's tokens
pub data Tokens : List ℕ → List Lexeme → Type 0 where
  end : Tokens [] []
  blank : {b : ℕ} {text : List ℕ} {ls : List Lexeme} → is_blank b ≡ true
      → Tokens text ls → Tokens (b ∷ text) ls
  -- from # to the end of the line
  comment : {b : ℕ} {text : List ℕ} {ls : List Lexeme} → b ≡ 35
      → Tokens (drop (line_len text) text) ls → Tokens (b ∷ text) ls
  token : {text : List ℕ} {l : Lexeme} {ls : List Lexeme} (n : ℕ) → IsLongest text n l
      → Tokens (drop n text) ls → Tokens text (l ∷ ls)
