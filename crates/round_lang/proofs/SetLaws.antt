-- The bits of a set are its members.
use Rattle.std.proofs.Common.{◌≡◌, ℕ, zero, suc, ◌+◌, ◌-◌, ◌*◌, ◌/◌, ◌%◌, ◌^◌, ◌<◌, ◌≤◌, ◌≢◌, min}
use Rattle.std.proofs.Common.{max, Bool, true, false, cond, List, ◌∷◌, length, map, refl, sym, ap}
use Rattle.std.proofs.Common.{◌∙◌, subst, inl, inr, ◌⊎◌, zero-add, arith}
use Rattle.std.specs.Prelude.{◌&&◌, ◌||◌, not, nat_eq, nat_lt, bit_and, bit_or, count_ones}
use Rattle.std.specs.List.{range_with_len, filter}
use Rattle.std.specs.Int.{bit_at, bit_not, w64, trailing_zeros}
use Rattle.std.proofs.lemmas.Simd.{mask_l-lt, bit_mask_l, ones-mask_l, trailing_mask_l}
use Rattle.std.proofs.lemmas.Nat.Bits.{bit_at-lt, bit_at-zero, bit_at-trailing_zeros, bit_at_and}
use Rattle.std.proofs.lemmas.Nat.Bits.{bit_at_or, bit_at_not, bit_at-pow_same, bit_at-pow_other}
use Rattle.std.proofs.lemmas.Nat.Bits.{bit_at_ones, bit_at_above, same_from_bits_below, shr_and_one}
use Rattle.std.proofs.lemmas.Nat.Bits.{ones_shr}
use Rattle.std.proofs.lemmas.Nat.{or_lt, and_le_l}
use Rattle.std.proofs.lemmas.List.FromFn.{length-map-range_with_len, get_or-map-range_with_len}
use Rattle.std.proofs.lemmas.List.FromFn.{length-range_with_len}
use Rattle.std.proofs.lemmas.Bool.{cases_lt}
use Rattle.std.proofs.lemmas.Bool.Decides.{nat_tests}
use Rattle.std.proofs.Math.Pow.{ones_lt, pow-lt, pow_mono}
use Rattle.std.proofs.Math.Nat.{mod-eq_of_lt}
use Rattle.std.proofs.lemmas.List.Sums.{length-filter}
use Rattle.std.specs.List.{prefix_len}
use Rattle.std.specs.Int.Count.{count_trailing_zeros}
use Rattle.round_lang.specs.Sets.{is_in, set_of, members, union, inter, minus, everything, only}
use Rattle.round_lang.specs.Sets.{size, least, first_or}

-- a bit says whether its place is a member
pub bit-is_in : (s i : ℕ) → bit_at s i ≡ cond (is_in s i) 1 0
unfolding is_in
bit-is_in s i = go (bit_at s i) (bit_at-lt s i)
  where
    go : (b : ℕ) → b < 2 → b ≡ cond (nat_eq b 1) 1 0
    go zero h = refl
    go (suc zero) h = refl
    go (suc (suc b)) h = absurd (omega arith)

pub bit-set_of : (k : ℕ) (p : ℕ → Bool) (i : ℕ) → i < k → bit_at (set_of k p) i ≡ cond (p i) 1 0
unfolding set_of
bit-set_of k p i h =
    bit_mask_l (map p (range_with_len 0 k)) i
    ∙ ap (λ b. cond b 1 0) (get_or-map-range_with_len p 0 k i i false h (omega arith))

pub set_of-lt : (k : ℕ) (p : ℕ → Bool) → set_of k p < 2 ^ k
unfolding set_of
set_of-lt k p = subst (λ n. set_of k p < 2 ^ n) (length-map-range_with_len p 0 k)
    (mask_l-lt (map p (range_with_len 0 k)))

-- a number of k bits is the set of the places of its ones
pub is-set_of : (k a : ℕ) (p : ℕ → Bool) → a < 2 ^ k
    → ((i : ℕ) → i < k → bit_at a i ≡ cond (p i) 1 0) → a ≡ set_of k p
is-set_of k a p small same =
    same_from_bits_below k a (set_of k p) small (set_of-lt k p)
    (λ i h. same i h ∙ sym (bit-set_of k p i h))

or_bits : (x y : Bool) → max (cond x 1 0) (cond y 1 0) ≡ cond (x || y) 1 0
or_bits true true = refl
or_bits true false = refl
or_bits false true = refl
or_bits false false = refl

and_bits : (x y : Bool) → min (cond x 1 0) (cond y 1 0) ≡ cond (x && y) 1 0
and_bits true true = refl
and_bits true false = refl
and_bits false true = refl
and_bits false false = refl

minus_bits : (x y : Bool) → min (cond x 1 0) (1 - cond y 1 0) ≡ cond (x && not y) 1 0
minus_bits true true = refl
minus_bits true false = refl
minus_bits false true = refl
minus_bits false false = refl

pub is-union : (a b : ℕ) → a < 2 ^ 64 → b < 2 ^ 64 → bit_or a b ≡ union a b
is-union a b ha hb =
    is-set_of 64 (bit_or a b) _ (or_lt 64 a b ha hb)
    (λ i h. bit_at_or a b i
    ∙ (rw (bit-is_in a i, bit-is_in b i) (or_bits (is_in a i) (is_in b i))))

pub is-inter : (a b : ℕ) → a < 2 ^ 64 → bit_and a b ≡ inter a b
is-inter a b ha =
    is-set_of 64 (bit_and a b) _ (omega (arith, and_le_l a b))
    (λ i h. bit_at_and a b i
    ∙ (rw (bit-is_in a i, bit-is_in b i) (and_bits (is_in a i) (is_in b i))))

pub is-minus : (a b : ℕ) → a < 2 ^ 64 → b < 2 ^ 64 → bit_and a (bit_not w64 b) ≡ minus a b
is-minus a b ha hb =
    is-set_of 64 (bit_and a (bit_not w64 b)) _ (omega (arith, and_le_l a (bit_not w64 b)))
    (λ i h. bit_at_and a (bit_not w64 b) i
    ∙ ap (λ n. min (bit_at a i) n) (bit_at_not w64 b i hb h)
    ∙ (rw (bit-is_in a i, bit-is_in b i) (minus_bits (is_in a i) (is_in b i))))

pub is-everything : (k : ℕ) → k ≤ 64 → (2 ^ 64 - 1) / 2 ^ (64 - k) ≡ everything k
is-everything k h =
    let e : 64 - (64 - k) ≡ k = omega arith in
    ones_shr 64 (64 - k) (omega arith) ∙ ap (λ n. 2 ^ n - 1) e
    ∙ is-set_of k (2 ^ k - 1) _ (ones_lt k) (λ i l. bit_at_ones k i l)

pow_bits : (e i : ℕ) → bit_at (2 ^ e) i ≡ cond (nat_eq i e) 1 0
pow_bits e i = go (nat_eq i e) refl
  where
    go : (b : Bool) → b ≡ nat_eq i e → bit_at (2 ^ e) i ≡ cond b 1 0
    go true h = let same : i ≡ e = grind (arith, nat_tests) in rw same (bit_at-pow_same e)
    go false h = let other : i ≢ e = grind (arith, nat_tests) in bit_at-pow_other e i other

pub is-only : (k e : ℕ) → e < k → 2 ^ e ≡ only k e
is-only k e h = is-set_of k (2 ^ e) _ (pow-lt h) (λ i l. pow_bits e i)

pub is-only_none : (k e : ℕ) → k ≤ e → 0 ≡ only k e
is-only_none k e h = is-set_of k 0 _ (omega (arith, ones_lt k))
    (λ i l. bit_at-zero i ∙ ap (λ b. cond b 1 0) (other i l (nat_eq i e) refl))
  where
    other : (i : ℕ) → i < k → (b : Bool) → b ≡ nat_eq i e → false ≡ b
    other i l true q = absurd (grind (arith, nat_tests))
    other i l false q = refl

-- a number of 64 bits is the set of its members
pub same-set_of : (s : ℕ) → s < 2 ^ 64 → s ≡ set_of 64 (is_in s)
same-set_of s h = is-set_of 64 s (is_in s) h (λ i l. bit-is_in s i)

ones-set_of : (k : ℕ) (p : ℕ → Bool)
    → count_ones (set_of k p) ≡ length (filter p (range_with_len 0 k))
unfolding set_of
ones-set_of k p = ones-mask_l p (range_with_len 0 k) ∙ sym (length-filter p (range_with_len 0 k))

pub is-size : (s : ℕ) → s < 2 ^ 64 → count_ones s ≡ size s
unfolding members
is-size s h = ap count_ones (same-set_of s h) ∙ ones-set_of 64 (is_in s)

-- the first member from a on, by how many places come before it
first_step : (p : ℕ → Bool) (k a n m : ℕ) (b : Bool) → b ≡ p a
    → (m < n → a + 1 + m ≡ first_or k (filter p (range_with_len (a + 1) n)))
    → cond (not b) (1 + m) 0 < suc n
    → a + cond (not b) (1 + m) 0 ≡ cond b a (first_or k (filter p (range_with_len (a + 1) n)))
first_step p k a n m true q ih h = omega arith
first_step p k a n m false q ih h = omega (arith, ih (omega arith))

first_or-cond : (k a : ℕ) (b : Bool) (vs : List ℕ)
    → first_or k (cond b (a ∷ vs) vs) ≡ cond b a (first_or k vs)
first_or-cond k a true vs = refl
first_or-cond k a false vs = refl

first_passes : (p : ℕ → Bool) (k a n : ℕ) → prefix_len (λ x. not (p x)) (range_with_len a n) < n
    → a + prefix_len (λ x. not (p x)) (range_with_len a n)
    ≡ first_or k (filter p (range_with_len a n))
first_passes p k a zero h = absurd (omega arith)
first_passes p k a (suc n) h =
    first_step p k a n (prefix_len (λ x. not (p x)) (range_with_len (a + 1) n)) (p a) refl
    (first_passes p k (a + 1) n) h
    ∙ sym (first_or-cond k a (p a) (filter p (range_with_len (a + 1) n)))

least_in : (p : ℕ → Bool) (k n s : ℕ) → s ≡ set_of n p → 0 < s → count_trailing_zeros n s < n
    → count_trailing_zeros n s ≡ first_or k (filter p (range_with_len 0 n))
unfolding set_of
least_in p k n s e pos below =
    let short : length (range_with_len 0 n) ≤ n = omega (arith, length-range_with_len 0 n) in
    let some = subst (λ x. 0 < x) e pos in
    let t = ap (count_trailing_zeros n) e ∙ trailing_mask_l p n (range_with_len 0 n) short some in
    t ∙ sym (zero-add _) ∙ first_passes p k 0 n (subst (λ x. x < n) t below)

pub is-least : (k s : ℕ) → s < 2 ^ 64 → 0 < s → trailing_zeros w64 s ≡ least k s
unfolding members
is-least k s h pos =
    least_in (is_in s) k 64 s (same-set_of s h) pos (bit_at-trailing_zeros w64 s pos h).0

none_pass : (k a n : ℕ) → k ≡ first_or k (filter (is_in 0) (range_with_len a n))
unfolding is_in
none_pass k a zero = refl
none_pass k a (suc n) = rw bit_at-zero (none_pass k (a + 1) n)

pub is-least_none : (k : ℕ) → k ≡ least k 0
unfolding members
is-least_none k = none_pass k 0 64

-- `1 << v`
pub small_pow : (v : ℕ) → v < 64 → 1 * 2 ^ v % 2 ^ 64 ≡ 2 ^ v
small_pow v h = let one : 1 * 2 ^ v ≡ 2 ^ v = omega arith in
    ap (λ n. n % 2 ^ 64) one ∙ mod-eq_of_lt (pow-lt h)

-- `(s >> v) & 1 == 1`
pub tests_member : (s v k : ℕ) → v < k → nat_eq (bit_and (s / 2 ^ v) 1) 1
    ≡ (nat_lt v k && is_in s v)
unfolding is_in
tests_member s v k h =
    let t : nat_lt v k ≡ true = grind (arith, nat_tests) in
    rw (t, shr_and_one s v) refl

-- a set with one more place, as a loop makes it
pub set_of-none : (p : ℕ → Bool) → 0 ≡ set_of 0 p
unfolding set_of
set_of-none p = refl

max_zero : (b : Bool) → max (cond b 1 0) 0 ≡ cond b 1 0
max_zero true = refl
max_zero false = refl

pub set_of-more : (v : ℕ) (p : ℕ → Bool)
    → set_of (v + 1) p ≡ cond (p v) (bit_or (set_of v p) (2 ^ v)) (set_of v p)
set_of-more v p =
    sym (is-set_of (v + 1) _ p (small (p v)) (λ i h. bits (p v) i h (cases_lt i v) refl))
  where
    small : (b : Bool) → cond b (bit_or (set_of v p) (2 ^ v)) (set_of v p) < 2 ^ (v + 1)
    small true =
        or_lt (v + 1) (set_of v p) (2 ^ v)
        (omega (arith, set_of-lt v p, pow-lt {i = v} {j = v + 1} (omega arith)))
        (pow-lt (omega arith))
    small false = omega (arith, set_of-lt v p, pow-lt {i = v} {j = v + 1} (omega arith))

    bits : (b : Bool) (i : ℕ) → i < v + 1 → (i < v) ⊎ (v ≤ i) → b ≡ p v
        → bit_at (cond b (bit_or (set_of v p) (2 ^ v)) (set_of v p)) i ≡ cond (p i) 1 0
    bits true i h (inl l) q = bit_at_or (set_of v p) (2 ^ v) i
        ∙ (let ne : i ≢ v = omega arith in rw (bit-set_of v p i l, bit_at-pow_other v i ne)
        (max_zero (p i)))
    bits true i h (inr l) q = bit_at_or (set_of v p) (2 ^ v) i
        ∙ (let e : i ≡ v = omega arith in
        rw (e, bit_at-pow_same v, bit_at_above (set_of v p) v v (set_of-lt v p) (omega arith), ← q)
        refl)
    bits false i h (inl l) q = bit-set_of v p i l
    bits false i h (inr l) q = let e : i ≡ v =
        omega arith in rw (e, bit_at_above (set_of v p) v v (set_of-lt v p) (omega arith), ← q) refl

-- `bits | 1 << v` where v passes
pub set_of-set : (v bits : ℕ) (p : ℕ → Bool) → v < 64 → p v ≡ true → bits ≡ set_of v p
    → bit_or bits (1 * 2 ^ v % 2 ^ 64) ≡ set_of (v + 1) p
set_of-set v bits p h is_so e =
    ap (λ n. bit_or bits n) (small_pow v h)
    ∙ ap (λ n. bit_or n (2 ^ v)) e
    ∙ ap (λ b. cond b (bit_or (set_of v p) (2 ^ v)) (set_of v p)) (sym is_so)
    ∙ sym (set_of-more v p)

pub set_of-kept : (v bits : ℕ) (p : ℕ → Bool) → p v ≡ false → bits ≡ set_of v p
    → bits ≡ set_of (v + 1) p
set_of-kept v bits p isnt e =
    e ∙ ap (λ b. cond b (bit_or (set_of v p) (2 ^ v)) (set_of v p)) (sym isnt)
    ∙ sym (set_of-more v p)

-- a number of k bits is one of 64
wide : (k x : ℕ) → k ≤ 64 → x < 2 ^ k → x < 2 ^ 64
wide k x h hx = let m : 2 ^ k ≤ 2 ^ 64 = pow_mono h in omega arith

pub union-lt : (k a b : ℕ) → k ≤ 64 → a < 2 ^ k → b < 2 ^ k → union a b < 2 ^ k
union-lt k a b h ha hb =
    subst (λ n. n < 2 ^ k) (is-union a b (wide k a h ha) (wide k b h hb)) (or_lt k a b ha hb)

pub inter-lt : (k a b : ℕ) → k ≤ 64 → a < 2 ^ k → inter a b < 2 ^ k
inter-lt k a b h ha =
    subst (λ n. n < 2 ^ k) (is-inter a b (wide k a h ha)) (omega (arith, and_le_l a b))

pub minus-lt : (k a b : ℕ) → k ≤ 64 → a < 2 ^ k → b < 2 ^ k → minus a b < 2 ^ k
minus-lt k a b h ha hb =
    subst (λ n. n < 2 ^ k) (is-minus a b (wide k a h ha) (wide k b h hb))
    (omega (arith, and_le_l a (bit_not w64 b)))

-- a bit that is 1 where a test passes
bit_test : (b : Bool) → nat_eq (cond b 1 0) 1 ≡ b
bit_test true = refl
bit_test false = refl

-- a set of the numbers below n has those that pass
pub is_in-set_of : (n : ℕ) (p : ℕ → Bool) (i : ℕ) → is_in (set_of n p) i ≡ (nat_lt i n && p i)
unfolding is_in
is_in-set_of n p i = go (cases_lt i n)
  where
    go : (i < n) ⊎ (n ≤ i) → nat_eq (bit_at (set_of n p) i) 1 ≡ (nat_lt i n && p i)
    go (inl h) =
        let below : nat_lt i n ≡ true = grind (arith, nat_tests) in
        ap (λ b. nat_eq b 1) (bit-set_of n p i h) ∙ bit_test (p i) ∙ ap (λ b. b && p i) (sym below)
    go (inr h) =
        let past : nat_lt i n ≡ false = grind (arith, nat_tests) in
        ap (λ b. nat_eq b 1) (bit_at_above (set_of n p) n i (set_of-lt n p) h)
        ∙ ap (λ b. b && p i) (sym past)

-- the same for all 64 places
pub is_in-wide : (p : ℕ → Bool) (i : ℕ) → i < 64 → is_in (set_of 64 p) i ≡ p i
is_in-wide p i h =
    let below : nat_lt i 64 ≡ true = grind (arith, nat_tests) in
    is_in-set_of 64 p i ∙ ap (λ b. b && p i) below
