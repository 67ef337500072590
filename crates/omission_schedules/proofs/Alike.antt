-- Tests that agree give the same sets and lists.
use Rattle.std.proofs.Common.{◌≡◌, ℕ, zero, suc, ◌+◌, ◌<◌, ◌≤◌, Bool, List}
use Rattle.std.proofs.Common.{map, refl, ap, ◌∙◌, arith, cond}
use Rattle.std.specs.Prelude.{filter}
use Rattle.std.specs.List.{flat_map, range_with_len}
use Rattle.round_lang.specs.Sets.{set_of}
use Rattle.round_lang.proofs.SetLaws.{bit-set_of, is-set_of, set_of-lt}

pub same_set : (n : ℕ) (p q : ℕ → Bool) → ((j : ℕ) → j < n → p j ≡ q j) → set_of n p ≡ set_of n q
same_set n p q same = is-set_of n (set_of n p) q (set_of-lt n p)
    (λ i h. bit-set_of n p i h ∙ ap (λ b. cond b 1 0) (same i h))

pub flat_same : (f g : ℕ → List (ℕ × ℕ)) (a n : ℕ) → ((k : ℕ) → a ≤ k → k < a + n → f k ≡ g k)
    → flat_map f (range_with_len a n) ≡ flat_map g (range_with_len a n)
flat_same f g a zero h = refl
flat_same f g a (suc n) h = rw (
  h a (omega arith) (omega arith),
  flat_same f g (a + 1) n
      (λ k low high. h k (omega arith) (omega arith)),
) refl

pub filter_tests : (p q : ℕ × ℕ → Bool) (r a n : ℕ) → ((i : ℕ) → i < a + n → p (r, i) ≡ q (r, i))
    → filter p (map (λ i. (r, i)) (range_with_len a n)) ≡ filter q
    (map (λ i. (r, i)) (range_with_len a n))
filter_tests p q r a zero h = refl
filter_tests p q r a (suc n) h =
    rw (h a (omega arith), filter_tests p q r (a + 1) n (λ i l. h i (omega arith))) refl

pub filter_same : (p q : ℕ → Bool) (a n : ℕ) → ((r : ℕ) → a ≤ r → r < a + n → p r ≡ q r)
    → filter p (range_with_len a n) ≡ filter q (range_with_len a n)
filter_same p q a zero h = refl
filter_same p q a (suc n) h =
    rw (
      h a (omega arith) (omega arith),
      filter_same p q (a + 1) n
          (λ r low high. h r (omega arith) (omega arith)),
    ) refl
