-- A line `omit I R J` is read as what it says.
use Rattle.std.proofs.Common.{◌≡◌, ◌∙◌, ℕ, ◌+◌, ◌-◌, ◌*◌, ◌^◌, ◌<◌, ◌≤◌, true}
use Rattle.std.proofs.Common.{List, [], ◌∷◌, ◌++◌, codes, ap, arith, refl, sym, subst, inl}
use Rattle.std.proofs.Common.{rules}
use Rattle.std.specs.Char.{is_ascii_digit}
use Rattle.std.specs.Fmt.{decimal}
use Rattle.std.specs.List.{AllZip, fold, list_all}
use Rattle.std.proofs.lemmas.Bool.{and_parts, leb-true, ne_eqb}
use Rattle.std.proofs.lemmas.Fmt.{decimal_nonempty, digits_value-decimal}
use Rattle.std.proofs.lemmas.List.Elements.{All-cons, All-nil}
use Rattle.std.proofs.lemmas.Str.Parse.{IsNumeralModel, numerals_by_fold}
use Rattle.omission_texts.specs.Texts.{IsSpelt, Tells, words_for}
use Rattle.omission_texts.specs.declared.line.OmissionLine.{OmissionLine}
use Rattle.omission_texts.specs.declared.line.OmissionLine.TheVariants.{Omit}
use Rattle.schedule_text.specs.Numbers.{IsNumeral, max_number, words_of}
use Rattle.schedule_text.proofs.Digits.{digits}
use Rattle.schedule_text.proofs.Numbers.{some_digits}
use Rattle.schedule_text.proofs.Split.{is_plain, plain-append, plain_digits}

-- ---- numbers

own : IsNumeralModel (λ ds. list_all is_ascii_digit ds ≡ true)
    (λ ds. fold (λ n b. 10 * n + (b - 48)) 0 ds)
own = numerals_by_fold (λ ds. list_all is_ascii_digit ds ≡ true) (search rules)
    (λ n ds. fold (λ n b. 10 * n + (b - 48)) n ds) (search rules)

numeral : (n : ℕ) → n ≤ max_number → IsNumeral (decimal n) n
numeral n small =
    let fits : n < 2 ^ 64 = omega (arith, small) in
    record {
      digits = some_digits (decimal n) (decimal_nonempty n fits) (digits n small);
      value = digits_value-decimal own n fits;
    }

-- ---- words

-- digits up to a space are a word
digits_word : (ds rest : List ℕ) → list_all is_ascii_digit ds ≡ true
    → words_of (ds ++ (32 ∷ rest)) ≡ ds ∷ words_of rest
digits_word [] rest h = refl
digits_word (d ∷ ds) rest h =
    let p = and_parts (is_ascii_digit d) (list_all is_ascii_digit ds) h in
    let low = leb-true 48 d (and_parts _ _ p.0).0 in
    let other = ne_eqb d 32 (λ e. omega (arith, low, e)) in
    rw other (rw (digits_word ds rest p.1) refl)

-- and so are all that are left
last_word : (ds : List ℕ) → list_all is_ascii_digit ds ≡ true → words_of ds ≡ ds ∷ []
last_word [] h = refl
last_word (d ∷ ds) h =
    let p = and_parts (is_ascii_digit d) (list_all is_ascii_digit ds) h in
    let low = leb-true 48 d (and_parts _ _ p.0).0 in
    let other = ne_eqb d 32 (λ e. omega (arith, low, e)) in
    rw other (rw (last_word ds p.1) refl)

-- ---- one line

pub record IsSmallOmission (i r j : ℕ) : Type 0 where
  pub receiver : i ≤ max_number
  pub round : r ≤ max_number
  pub sender : j ≤ max_number

abbrev pub omit_text : (i r j : ℕ) → List ℕ
omit_text i r j =
    codes "omit " ++ (decimal i ++ (32 ∷ (decimal r ++ (32 ∷ decimal j))))

abbrev pub omit_said : (i r j : ℕ) → OmissionLine
omit_said i r j = Omit i (record { first = r; last = r }) j

module _ (i r j : ℕ) (small : IsSmallOmission i r j) where
  words : words_of (omit_text i r j) ≡ codes "omit" ∷ decimal i ∷ decimal r ∷ decimal j ∷ []
  words =
      ap (λ ws. codes "omit" ∷ ws) (digits_word (decimal i) (decimal r ++ (32 ∷ decimal j))
      (digits i small.receiver)
      ∙ ap (λ ws. decimal i ∷ ws) (digits_word (decimal r) (decimal j) (digits r small.round)
      ∙ ap (λ ws. decimal r ∷ ws) (last_word (decimal j) (digits j small.sender))))

  pub omit_told : Tells (omit_text i r j) (omit_said i r j)
  omit_told = record {
    form = subst (λ ws. AllZip IsSpelt ws (words_for (omit_said i r j))) (sym words) (
      refl,
      (
        numeral i small.receiver,
        (
          inl (numeral r small.round, refl),
          (numeral j small.sender, tt),
        ),
      ),
    );
    small = All-cons (λ v. v ≤ max_number) i (r ∷ r ∷ j ∷ []) small.receiver
        (All-cons (λ v. v ≤ max_number) r (r ∷ j ∷ []) small.round
        (All-cons (λ v. v ≤ max_number) r (j ∷ []) small.round
        (All-cons (λ v. v ≤ max_number) j [] small.sender (All-nil (λ v. v ≤ max_number)))));
  }

  pub omit_plain : is_plain (omit_text i r j) ≡ true
  omit_plain =
      plain-append (codes "omit ") (decimal i ++ (32 ∷ (decimal r ++ (32 ∷ decimal j)))) refl
      (plain-append (decimal i) (32 ∷ (decimal r ++ (32 ∷ decimal j)))
      (plain_digits (decimal i) (digits i small.receiver))
      (plain-append (decimal r) (32 ∷ decimal j) (plain_digits (decimal r) (digits r small.round))
      (plain_digits (decimal j) (digits j small.sender))))
