-- A number's digits, written one after the other.
use Rattle.std.proofs.Common.{◌≡◌, ℕ, ◌+◌, ◌/◌, ◌%◌, ◌<◌, ◌≤◌, List, [], ◌∷◌, ◌++◌, sym, ap, ◌∙◌}
use Rattle.std.proofs.Common.{append_assoc, arith}
use Rattle.std.specs.Fmt.{decimal}
use Rattle.std.proofs.lemmas.Fmt.{decimal_digit, decimal_step}

-- two digits
pub two_digits : (text : List ℕ) (n : ℕ) → 10 ≤ n → n < 100
    → text ++ (48 + n / 10) ∷ (48 + n % 10) ∷ [] ≡ text ++ decimal n
two_digits text n ten small =
    let front : n / 10 < 10 = omega arith in
    ap (λ ds. text ++ ds) (sym (decimal_step n ten (omega arith)
    ∙ ap (λ ds. ds ++ (48 + n % 10) ∷ []) (decimal_digit (n / 10) front)))

-- the only digit
pub one_digit : (text : List ℕ) (n : ℕ) → n < 10 → text ++ (48 + n) ∷ [] ≡ text ++ decimal n
one_digit text n small = ap (λ ds. text ++ ds) (sym (decimal_digit n small))

-- the only digit, and a byte behind it
pub digit_and : (text : List ℕ) (n end : ℕ) → n < 10
    → text ++ (48 + n) ∷ end ∷ [] ≡ text ++ (decimal n ++ end ∷ [])
digit_and text n end small = ap (λ ds. text ++ (ds ++ end ∷ [])) (sym (decimal_digit n small))

-- digits, and two more behind them
pub two_more : (text : List ℕ) (n : ℕ) → 100 ≤ n → n < 18446744073709551616
    → (text ++ decimal (n / 100)) ++ (48 + n % 100 / 10) ∷ (48 + n % 100 % 10) ∷ [] ≡ text
    ++ decimal n
two_more text n hundred small =
    let tens : n / 10 / 10 ≡ n / 100 = omega arith in
    let ten : n / 10 % 10 ≡ n % 100 / 10 = omega arith in
    let one : n % 10 ≡ n % 100 % 10 = omega arith in
    let front = decimal_step (n / 10) (omega arith) (omega arith)
    ∙ ap (λ m. decimal m ++ (48 + n / 10 % 10) ∷ []) tens
    ∙ ap (λ d. decimal (n / 100) ++ (48 + d) ∷ []) ten in
    let whole = decimal_step n (omega arith) (omega arith)
    ∙ ap (λ ds. ds ++ (48 + n % 10) ∷ []) front
    ∙ ap (λ d. (decimal (n / 100) ++ (48 + n % 100 / 10) ∷ []) ++ (48 + d) ∷ []) one in
    append_assoc text (decimal (n / 100)) _
    ∙ ap (λ ds. text ++ ds)
    (sym (whole ∙ append_assoc (decimal (n / 100)) ((48 + n % 100 / 10) ∷ [])
    ((48 + n % 100 % 10) ∷ [])))
