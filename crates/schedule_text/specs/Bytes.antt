-- What bytes are: a text within a limit, a longer one, or no text.
use Rattle.std.specs.Prelude.{◌≡◌, ◌<◌, ◌≤◌, ◌+◌, ◌⊎◌, ℕ, List, None, drop, length, take}
use Rattle.std.specs.Str.{IsUtf8}
use Rattle.std.specs.Str.Lossy.{utf8_error_len, utf8_valid_len}

-- the bytes begin a text in UTF-8: what is behind the last whole character could begin one
abbrev pub BeginsUtf8 : List ℕ → Type 0
BeginsUtf8 bytes = IsUtf8 bytes ⊎ (utf8_error_len (drop (utf8_valid_len bytes) bytes) ≡ None)

-- a text in UTF-8, within the limit
pub record IsText (limit : ℕ) (held : List ℕ) : Type 0 where
  pub short : length held ≤ limit
  pub utf8 : IsUtf8 held

-- a longer text, as far as it is read
pub record IsLongText (limit : ℕ) (held : List ℕ) : Type 0 where
  pub long : limit < length held
  pub utf8 : BeginsUtf8 (take (limit + 1) held)

-- neither
abbrev pub IsNoText : ℕ → List ℕ → Type 0
IsNoText limit held = (¬ (IsText limit held)) × (¬ (IsLongText limit held))
