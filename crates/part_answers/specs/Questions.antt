-- Which question a part answers.
use Rattle.std.specs.Prelude.{◌≡◌, ◌&&◌, ◌||◌, ℕ, Bool, List, length, nat_le, true}
use Rattle.std.specs.Char.{is_ascii_digit}
use Rattle.std.specs.List.{list_all}

-- a decimal digit, or a letter of `a` to `f`
abbrev pub is_hex_digit : ℕ → Bool
is_hex_digit b = is_ascii_digit b || (nat_le 97 b && nat_le b 102)

-- the 64 hex digits of a SHA-256
pub record IsQuestion (text : List ℕ) : Type 0 where
  pub long : length text ≡ 64
  pub digits : list_all is_hex_digit text ≡ true
