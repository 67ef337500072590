-- Numbers are read with their values.
use Rattle.std.proofs.Common.{◌≡◌, ℕ, ◌+◌, ◌-◌, ◌*◌, ◌<◌, ◌≤◌, min, Bool, true, false, cond, ◌&&◌}
use Rattle.std.proofs.Common.{leb, le-leb, List, [], ◌∷◌, fold, Option, Some, None, refl, ap, arith}
use Rattle.std.proofs.lemmas.Bool.{lt-leb}
use Rattle.round_lang.specs.Grammar.{value_of}
use Rattle.round_lang.specs.Reading.{value_within, capped_value}

capped_from : (n m : ℕ) (ds : List ℕ) → m ≡ min n 4294967296
    → fold (λ n b. min (10 * n + (b - 48)) 4294967296) m ds
    ≡ min (fold (λ n b. 10 * n + (b - 48)) n ds) 4294967296
capped_from n m [] e = e
capped_from n m (b ∷ bs) e =
    capped_from (10 * n + (b - 48)) (min (10 * m + (b - 48)) 4294967296) bs (omega (arith, e))

pub capped_value_is : (ds : List ℕ) → capped_value ds ≡ min (value_of ds) 4294967296
unfolding capped_value
capped_value_is ds = capped_from 0 0 ds refl

module _ (low high : ℕ) (small : high ≤ 4294967295) (ds : List ℕ) (v : ℕ)
    (is : v ≡ capped_value ds) where
  pub value_found : low ≤ v → v ≤ high → value_within low high ds ≡ Some v
  unfolding value_within
  value_found least most =
      let same : value_of ds ≡ v = omega (arith, is, capped_value_is ds) in
      let a : leb low v ≡ true = le-leb low v least in
      let b : leb v high ≡ true = le-leb v high most in
      rw (same, a, b) refl

  abbrev guarded : Bool → Bool → Option ℕ
  guarded a b = cond (a && b) (Some (value_of ds)) None

  pub value_below : low ≤ 4294967295 → v < low → value_within low high ds ≡ None
  unfolding value_within
  value_below first lt =
      let a : leb low (value_of ds) ≡ false =
      lt-leb low (value_of ds) (omega (arith, is, capped_value_is ds)) in
      ap (λ a. guarded a (leb (value_of ds) high)) a

  not_most : (a b : Bool) → b ≡ false → guarded a b ≡ None
  not_most true b e = rw e refl
  not_most false b e = refl

  pub value_above : high < v → value_within low high ds ≡ None
  unfolding value_within
  value_above lt = not_most (leb low (value_of ds)) (leb (value_of ds) high)
      (lt-leb (value_of ds) high (omega (arith, is, capped_value_is ds)))
