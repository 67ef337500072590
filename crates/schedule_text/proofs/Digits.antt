-- Written numbers are read as what they were.
use Rattle.std.proofs.Common.{◌≡◌, ℕ, ◌+◌, ◌-◌, ◌*◌, ◌^◌, ◌<◌, Bool, true, false, cond, eqb, List}
use Rattle.std.proofs.Common.{[], ◌∷◌, ◌++◌, Some, option_map, Ok, leb, le-leb, append_assoc, refl}
use Rattle.std.proofs.Common.{sym, ap, ◌∙◌, arith, rules}
use Rattle.std.specs.Char.{is_ascii_digit}
use Rattle.std.specs.Fmt.{decimal}
use Rattle.std.specs.List.{list_all, flat_map, fold, AllByRecursion}
use Rattle.std.proofs.lemmas.Bool.{and_from, eqb-true}
use Rattle.std.proofs.lemmas.List.{append-nil}
use Rattle.std.proofs.lemmas.Fmt.{digits_decimal, digits_value-decimal, decimal_nonempty}
use Rattle.std.proofs.lemmas.Str.Parse.{IsNumeralModel, numerals_by_fold}
use Rattle.run_events.specs.declared.name.Name.{Name}
use Rattle.schedule_text.specs.Numbers.{is_number, value_of, max_number}
use Rattle.schedule_text.specs.Small.{IsSmall, IsSmallName}
use Rattle.schedule_text.specs.Stages.{one_of, all_of, name_of, sized_name, whole_name_of}
use Rattle.schedule_text.specs.Stages.{numbers_in}
use Rattle.schedule_text.specs.Writing.{copy_ending}
use Rattle.schedule_text.proofs.Numbers.{some_digits, numbers-alone, numbers-more}

own : IsNumeralModel (λ ds. list_all is_ascii_digit ds ≡ true)
    (λ ds. fold (λ n b. 10 * n + (b - 48)) 0 ds)
own = numerals_by_fold (λ ds. list_all is_ascii_digit ds ≡ true) (search rules)
    (λ n ds. fold (λ n b. 10 * n + (b - 48)) n ds) (search rules)

module _ (n : ℕ) (small : IsSmall n) where
  fits : n < 2 ^ 64
  fits = omega (arith, small)

  pub digits : list_all is_ascii_digit (decimal n) ≡ true
  digits = digits_decimal own n fits

  is_one : is_number (decimal n) ≡ true
  is_one = some_digits (decimal n) (decimal_nonempty n fits) digits

  value : value_of (decimal n) ≡ n
  value = digits_value-decimal own n fits

  small_test : leb n max_number ≡ true
  small_test = le-leb n max_number small

  alone : numbers_in (decimal n) ≡ Some (n ∷ [])
  alone = numbers-alone (decimal n) is_one digits ∙ ap (λ v. Some (v ∷ [])) value

  before : (ys : List ℕ)
      → numbers_in (decimal n ++ 32 ∷ ys) ≡ option_map (λ vs. n ∷ vs) (numbers_in ys)
  before ys = numbers-more (decimal n) ys is_one digits
      ∙ ap (λ v. option_map (λ vs. v ∷ vs) (numbers_in ys)) value

  pub one_read : one_of (numbers_in (decimal n)) ≡ Ok n
  one_read = ap one_of alone ∙ rw small_test refl

-- values with a space before each but the first
values : (v : ℕ) (vs : List ℕ) → IsSmall v → AllByRecursion IsSmall vs
    → numbers_in (decimal v ++ flat_map (λ v. 32 ∷ decimal v) vs) ≡ Some (v ∷ vs)
values v [] small h = ap numbers_in (append-nil (decimal v)) ∙ alone v small
values v (w ∷ ws) small h = before v small (decimal w ++ flat_map (λ v. 32 ∷ decimal v) ws)
    ∙ ap (λ o. option_map (λ vs. v ∷ vs) o) (values w ws h.0 h.1)

all_small : (vs : List ℕ) → AllByRecursion IsSmall vs → list_all (λ v. leb v max_number) vs ≡ true
all_small [] h = refl
all_small (v ∷ vs) h = and_from (leb v max_number) (list_all (λ v. leb v max_number) vs)
    (small_test v h.0) (all_small vs h.1)

pub values_read : (v : ℕ) (vs : List ℕ) → AllByRecursion IsSmall (v ∷ vs)
    → all_of (numbers_in (decimal v ++ flat_map (λ v. 32 ∷ decimal v) vs)) ≡ Ok (v ∷ vs)
values_read v vs h = ap all_of (values v vs h.0 h.1) ∙ (let t = all_small (v ∷ vs) h in rw t refl)

regroup : (a b c d : List ℕ) → ((((a ++ 32 ∷ []) ++ b) ++ 32 ∷ []) ++ c) ++ d ≡ a
    ++ 32 ∷ (b ++ 32 ∷ (c ++ d))
regroup a b c d = simp append_assoc

-- a name, and what follows it
module _ (m : Name) (small : IsSmallName m) where
  abbrev spelled : List ℕ → List ℕ
  spelled rest = ((((decimal m.from ++ 32 ∷ []) ++ decimal m.to) ++ 32 ∷ []) ++ decimal m.round)
      ++ rest

  numbers-name : (rest : List ℕ) (vs : List ℕ) → numbers_in (decimal m.round ++ rest) ≡ Some vs
      → numbers_in (spelled rest) ≡ Some (m.from ∷ m.to ∷ vs)
  numbers-name rest vs h =
      ap numbers_in (regroup (decimal m.from) (decimal m.to) (decimal m.round) rest)
      ∙ before m.from small.0 (decimal m.to ++ 32 ∷ (decimal m.round ++ rest))
      ∙ ap (λ o. option_map (λ vs. m.from ∷ vs) o)
      (before m.to small.1 (decimal m.round ++ rest)
      ∙ ap (λ o. option_map (λ vs. m.to ∷ vs) o) h)

  numbers-whole : numbers_in (spelled (32 ∷ decimal m.copy))
      ≡ Some (m.from ∷ m.to ∷ m.round ∷ m.copy ∷ [])
  numbers-whole =
      numbers-name (32 ∷ decimal m.copy) (m.round ∷ m.copy ∷ [])
      (before m.round small.2 (decimal m.copy)
      ∙ ap (λ o. option_map (λ vs. m.round ∷ vs) o) (alone m.copy small.3))

  numbers-short : numbers_in (spelled []) ≡ Some (m.from ∷ m.to ∷ m.round ∷ [])
  numbers-short =
      numbers-name [] (m.round ∷ []) (ap numbers_in (append-nil (decimal m.round))
      ∙ alone m.round small.2)

  sized_as : sized_name m.from m.to m.round m.copy ≡ Ok m
  sized_as =
      let f = small_test m.from small.0 in
      let t = small_test m.to small.1 in
      let r = small_test m.round small.2 in
      let c = small_test m.copy small.3 in
      rw (f, t, r, c) refl

  pub whole_name_read : whole_name_of (numbers_in (spelled (32 ∷ decimal m.copy))) ≡ Ok m
  whole_name_read = ap whole_name_of numbers-whole ∙ sized_as

  pub name_read : name_of (numbers_in (spelled (copy_ending m.copy))) ≡ Ok m
  name_read = go (eqb m.copy 0) refl
    where
      go : (b : Bool) → eqb m.copy 0 ≡ b
          → name_of (numbers_in (spelled (cond b [] (32 ∷ decimal m.copy)))) ≡ Ok m
      go true is = ap name_of numbers-short
          ∙ ap (sized_name m.from m.to m.round) (sym (eqb-true m.copy 0 is)) ∙ sized_as
      go false is = ap name_of numbers-whole ∙ sized_as
