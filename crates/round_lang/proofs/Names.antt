-- Names are ASCII, and the front of a text that begins as one is one.
use Rattle.std.proofs.Common.{◌≡◌, ℕ, ◌+◌, ◌<◌, true, List, [], ◌∷◌, length}
use Rattle.std.proofs.Common.{take, drop, get_or, arith}
use Rattle.std.specs.Str.{IsAscii}
use Rattle.std.specs.List.{list_all, prefix_len}
use Rattle.std.proofs.Math.Numerals.{one-add}
use Rattle.std.proofs.lemmas.Bool.{and_from, and_parts}
use Rattle.std.proofs.lemmas.Bool.Decides.{nat_tests}
use Rattle.std.proofs.lemmas.Str.Ascii.{IsAscii-nil, IsAscii-cons}
use Rattle.round_lang.specs.Tokens.{begins_name, is_in_name, is_name}
use Rattle.round_lang.proofs.Longest.{all_in_run}

in_name_ascii : (b : ℕ) → is_in_name b ≡ true → b < 128
in_name_ascii b h = grind (arith, nat_tests)

begins_in_name : (b : ℕ) → begins_name b ≡ true → is_in_name b ≡ true
begins_in_name b h = grind (arith, nat_tests)

names_ascii : (bs : List ℕ) → list_all is_in_name bs ≡ true → IsAscii bs
names_ascii [] h = IsAscii-nil
names_ascii (b ∷ bs) h = let p = and_parts (is_in_name b) (list_all is_in_name bs) h in
    IsAscii-cons b bs (in_name_ascii b p.0) (names_ascii bs p.1)

pub spelt_ascii : (bs : List ℕ) → is_name bs ≡ true → IsAscii bs
spelt_ascii [] h = IsAscii-nil
spelt_ascii (b ∷ bs) h =
    let p = and_parts (begins_name b) (list_all is_in_name bs) h in
    IsAscii-cons b bs (in_name_ascii b (begins_in_name b p.0)) (names_ascii bs p.1)

-- the front of a text that begins as a name is spelt as one
pub front_is_name : (text : List ℕ) (n : ℕ) → 0 < length text → begins_name (get_or text 0 0) ≡ true
    → n ≡ prefix_len is_in_name (drop 1 text) → is_name (take (1 + n) text) ≡ true
front_is_name [] n lt h e = absurd (omega arith)
front_is_name (a ∷ bs) n lt h e =
    rw (one-add, e)
    (and_from (begins_name a) (list_all is_in_name (take (prefix_len is_in_name bs) bs)) h
    (all_in_run is_in_name bs))
