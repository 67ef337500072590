-- The tokens of `values K` and what follows.
use Rattle.std.proofs.Common.{◌≡◌, ℕ, suc, ◌+◌, ◌*◌, ◌-◌, ◌^◌, ◌<◌, ◌≤◌, true, false, List, [], ◌∷◌}
use Rattle.std.proofs.Common.{◌++◌, length, take, drop, Some, refl, sym, ap, subst, arith, rules}
use Rattle.std.specs.Prelude.{codes}
use Rattle.std.specs.Char.{is_ascii_digit}
use Rattle.std.specs.Fmt.{decimal}
use Rattle.std.specs.List.{fold, list_all, prefix_len}
use Rattle.std.proofs.Math.Numerals.{one-add}
use Rattle.std.proofs.lemmas.Bool.{and_parts, le-leb}
use Rattle.std.proofs.lemmas.Bool.Decides.{nat_tests}
use Rattle.std.proofs.lemmas.Fmt.{digits_decimal, digits_value-decimal, decimal_nonempty}
use Rattle.std.proofs.lemmas.Str.Parse.{IsNumeralModel, numerals_by_fold}
use Rattle.round_lang.specs.declared.token.Mark.TheVariants as m
use Rattle.round_lang.specs.Grammar.{value_of}
use Rattle.round_lang.specs.Keywords.{keyword, frame_word, choice_word, type_word, operator_word}
use Rattle.round_lang.specs.Keywords.{constant_word, call_word}
use Rattle.round_lang.specs.Lexemes.{Lexeme, mark, number}
use Rattle.round_lang.specs.Reading.{number_at, value_within}
use Rattle.round_lang.specs.Scanning.{step, token}
use Rattle.round_lang.specs.Tokens.{begins_name, IsLongest, Tokens}
use Rattle.round_lang.specs.Tokens as t
use Rattle.round_lang.proofs.Longest.{number_longest}
use Rattle.round_lang.proofs.Pieces.{Says, step_says}
use Rattle.algorithm_library.specs.Texts.{text_of}

own : IsNumeralModel (λ ds. list_all is_ascii_digit ds ≡ true)
    (λ ds. fold (λ n b. 10 * n + (b - 48)) 0 ds)
own = numerals_by_fold (λ ds. list_all is_ascii_digit ds ≡ true) (search rules)
    (λ n ds. fold (λ n b. 10 * n + (b - 48)) n ds) (search rules)

digit_is_no_letter : (a : ℕ) → is_ascii_digit a ≡ true → begins_name a ≡ false
digit_is_no_letter a h = grind (arith, nat_tests)

-- digits before a space
run : (ds bs : List ℕ) → list_all is_ascii_digit ds ≡ true
    → prefix_len is_ascii_digit (ds ++ 32 ∷ bs) ≡ length ds
run [] bs h = refl
run (d ∷ ds) bs h =
    let both = and_parts (is_ascii_digit d) (list_all is_ascii_digit ds) h in
    rw (one-add, both.0) (ap suc (run ds bs both.1))

front : (ds bs : List ℕ) → take (length ds) (ds ++ bs) ≡ ds
front [] bs = refl
front (d ∷ ds) bs = ap (λ xs. d ∷ xs) (front ds bs)

back : (ds bs : List ℕ) → drop (length ds) (ds ++ bs) ≡ bs
back [] bs = refl
back (d ∷ ds) bs = back ds bs

number_before : (ds bs : List ℕ) (ls : List Lexeme) → 0 < length ds
    → list_all is_ascii_digit ds ≡ true → Tokens (32 ∷ bs) ls
    → Tokens (ds ++ 32 ∷ bs) (number ds ∷ ls)
number_before [] bs ls some h rest = absurd (omega arith)
number_before (d ∷ ds) bs ls some h rest =
    let both = and_parts (is_ascii_digit d) (list_all is_ascii_digit ds) h in
    let longest = number_longest d (ds ++ 32 ∷ bs) (digit_is_no_letter d both.0) both.0 in
    let at : IsLongest (d ∷ ds ++ 32 ∷ bs) (suc (length ds))
    (number (take (suc (length ds)) (d ∷ ds ++ 32 ∷ bs))) =
    subst (λ n. IsLongest (d ∷ ds ++ 32 ∷ bs) (suc n)
    (number (take (suc n) (d ∷ ds ++ 32 ∷ bs)))) (run ds bs both.1) longest in
    let named : IsLongest (d ∷ ds ++ 32 ∷ bs) (suc (length ds)) (number (d ∷ ds)) =
    subst (λ xs. IsLongest (d ∷ ds ++ 32 ∷ bs) (suc (length ds)) (number (d ∷ xs)))
    (front ds (32 ∷ bs)) at in
    t.token (suc (length ds)) named (subst (λ xs. Tokens xs ls) (sym (back ds (32 ∷ bs))) rest)

first_step : (text : List ℕ) → step (codes "values " ++ text) ≡ token 6 (mark m.Values)
unfolding step keyword frame_word choice_word type_word operator_word constant_word call_word
first_step text = refl

-- the header's tokens, before those of the rest
pub header : (k : ℕ) (bs : List ℕ) (ls : List Lexeme) → k ≤ 64 → Tokens (32 ∷ bs) ls
    → Tokens (text_of (32 ∷ bs) k) (mark m.Values ∷ number (decimal k) ∷ ls)
header k bs ls small rest =
    let says = subst (Says (text_of (32 ∷ bs) k)) (first_step (decimal k ++ 32 ∷ bs))
    (step_says (text_of (32 ∷ bs) k) (omega arith)) in
    let fits : k < 2 ^ 64 = omega arith in
    t.token 6 says.is
    (t.blank refl (number_before (decimal k) bs ls (decimal_nonempty k fits)
    (digits_decimal own k fits) rest))

-- the number is read as K
pub count_read : (k : ℕ) (ls : List Lexeme) → 1 ≤ k → k ≤ 64
    → number_at 1 64 (number (decimal k) ∷ ls) ≡ Some (k, ls)
unfolding number_at value_within
count_read k ls some few =
    let fits : k < 2 ^ 64 = omega arith in
    let value : value_of (decimal k) ≡ k = digits_value-decimal own k fits in
    rw value (rw (le-leb 1 k some, le-leb k 64 few) refl)
