-- Which bytes the texts of answers have.
use Rattle.std.proofs.Common.{◌≡◌, ◌<◌, ◌≤◌, ◌∷◌, [], ℕ, List, true, arith}
use Rattle.std.proofs.Common.{length, get_or, zero, suc}
use Rattle.std.specs.List.{list_all}
use Rattle.std.specs.Prelude.{◌^◌}
use Rattle.std.specs.Fmt.{decimal}
use Rattle.std.specs.Str.{IsAscii}
use Rattle.std.proofs.lemmas.Bool.{and_parts}
use Rattle.std.proofs.lemmas.Bool.Decides.{nat_tests}
use Rattle.std.proofs.lemmas.Fmt.{decimal_is_IsNumeral}
use Rattle.std.proofs.lemmas.Str.Parse.{digit_at}
use Rattle.part_answers.specs.Cuts.{Lacks}
use Rattle.part_answers.specs.Questions.{is_hex_digit}

-- a hex digit is none of the marks
pub hex_digit_between : (b : ℕ) → is_hex_digit b ≡ true → (48 ≤ b) × (b ≤ 102)
hex_digit_between b is = (grind (arith, nat_tests), grind (arith, nat_tests))

pub hex_between : (text : List ℕ) → list_all is_hex_digit text ≡ true → (i : ℕ) → i < length text
    → (48 ≤ get_or text i 0) × (get_or text i 0 ≤ 102)
hex_between [] all i below = absurd (omega (arith, below))
hex_between (b ∷ text) all zero below =
    hex_digit_between b (and_parts (is_hex_digit b) (list_all is_hex_digit text) all).0
hex_between (b ∷ text) all (suc i) below =
    hex_between text (and_parts (is_hex_digit b) (list_all is_hex_digit text) all).1 i
    (omega (arith, below))

pub hex_ascii : (text : List ℕ) → list_all is_hex_digit text ≡ true → IsAscii text
hex_ascii [] all i = omega arith
hex_ascii (b ∷ text) all zero =
    let is = hex_digit_between b (and_parts (is_hex_digit b) (list_all is_hex_digit text) all).0 in
    omega (arith, is.1)
hex_ascii (b ∷ text) all (suc i) =
    hex_ascii text (and_parts (is_hex_digit b) (list_all is_hex_digit text) all).1 i

-- a mark that comes before the digits is in no digits
pub hex_lacks : (mark : ℕ) (text : List ℕ) → mark < 48 → list_all is_hex_digit text ≡ true
    → Lacks mark text
hex_lacks mark text before all i below is =
    let range = hex_between text all i below in absurd (omega (arith, range.0))

pub decimal_lacks : (mark n : ℕ) → mark < 48 → n < 2 ^ 64 → Lacks mark (decimal n)
decimal_lacks mark n before small i below is =
    let range = digit_at (decimal n) i (decimal_is_IsNumeral n small).0.1 below in
    absurd (omega (arith, range.0))
