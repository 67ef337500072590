-- What a value says of each of its members or places.
use Rattle.std.proofs.Common.{◌≡◌, ℕ, zero, suc, ◌+◌, ◌<◌, ◌≤◌, Bool, true, false, cond, List, []}
use Rattle.std.proofs.Common.{◌∷◌, length, map, refl, sym, ap, ◌∙◌, inl, inr, ◌⊎◌, Some, None}
use Rattle.std.proofs.Common.{arith}
use Rattle.std.specs.Prelude.{nat_eq, slice_index}
use Rattle.std.specs.List.{range_with_len, filter}
use Rattle.std.proofs.lemmas.Nat.Bits.{bit_at_above}
use Rattle.std.proofs.lemmas.List.FromFn.{get_or-map-range_with_len}
use Rattle.std.proofs.lemmas.Bool.{cases_lt, false≢true, or_cases, eqb-true}
use Rattle.round_lang.specs.Sets.{is_in, set_of, members, union, only, size, least, first_or}
use Rattle.round_lang.proofs.SetLaws.{bit-set_of, set_of-lt}
use Rattle.round_meaning.specs.Turn.{first_member}

one_of : (b : Bool) → nat_eq (cond b 1 0) 1 ≡ b
one_of true = refl
one_of false = refl

-- the members of a set that a test makes
pub is_in-set_of : (k : ℕ) (p : ℕ → Bool) (v : ℕ) → v < k → is_in (set_of k p) v ≡ p v
unfolding is_in
is_in-set_of k p v h = ap (λ n. nat_eq n 1) (bit-set_of k p v h) ∙ one_of (p v)

above : (k : ℕ) (p : ℕ → Bool) (v : ℕ) → k ≤ v → is_in (set_of k p) v ≡ false
unfolding is_in
above k p v h = ap (λ n. nat_eq n 1) (bit_at_above (set_of k p) k v (set_of-lt k p) h)

pub in_set_of : (k : ℕ) (p : ℕ → Bool) (v : ℕ) → is_in (set_of k p) v ≡ true
    → (v < k) × (p v ≡ true)
in_set_of k p v h = go (cases_lt v k)
  where
    go : (v < k) ⊎ (k ≤ v) → (v < k) × (p v ≡ true)
    go (inl l) = (l, sym (is_in-set_of k p v l) ∙ h)
    go (inr l) = absurd (false≢true (sym (above k p v l) ∙ h))

pub in_union : (a b v : ℕ) → is_in (union a b) v ≡ true → (is_in a v ≡ true) ⊎ (is_in b v ≡ true)
in_union a b v h = or_cases _ _ ((in_set_of 64 _ v h).1)

pub in_only : (k e v : ℕ) → is_in (only k e) v ≡ true → (v < k) × (v ≡ e)
in_only k e v h = let r = in_set_of k (λ u. nat_eq u e) v h in (r.0, eqb-true v e r.1)

pub none_in : (v : ℕ) → is_in 0 v ≡ true → ⊥
unfolding set_of
none_in v h = absurd (omega (arith, (in_set_of 0 (λ u. true) v h).0))

-- the places of a row that a function makes
pub at_row : (f : ℕ → ℕ) (k v : ℕ) → v < k → slice_index (map f (range_with_len 0 k)) v ≡ f v
at_row f k v h = get_or-map-range_with_len f 0 k v v 0 h (omega arith)

-- filters of a range
some_left : (p : ℕ → Bool) (a n : ℕ) → 0 < length (filter p (range_with_len a n))
    → (v : ℕ) × (a ≤ v) × (v < a + n) × (p v ≡ true)
some_left p a zero h = absurd (omega arith)
some_left p a (suc n) h = go (some_left p (a + 1) n) (p a) refl h
  where
    go : (0 < length (filter p (range_with_len (a + 1) n))
        → (v : ℕ) × (a + 1 ≤ v) × (v < a + 1 + n) × (p v ≡ true)) → (b : Bool) → p a ≡ b
        → 0 < length (cond b (a ∷ filter p (range_with_len (a + 1) n))
        (filter p (range_with_len (a + 1) n))) → (v : ℕ) × (a ≤ v) × (v < a + suc n) × (p v ≡ true)
    go ih true e l = (a, omega arith, omega arith, e)
    go ih false e l = let r = ih l in (r.0, omega arith, omega arith, r.3)

left_in : (p : ℕ → Bool) (a n v : ℕ) → a ≤ v → v < a + n → p v ≡ true
    → 0 < length (filter p (range_with_len a n))
left_in p a zero v lo hi h = absurd (omega arith)
left_in p a (suc n) v lo hi h = go (λ l. left_in p (a + 1) n v (omega arith) (omega arith) h)
    (p a) refl (cases_lt a v)
  where
    go : (a < v → 0 < length (filter p (range_with_len (a + 1) n))) → (b : Bool) → p a ≡ b
        → (a < v) ⊎ (v ≤ a)
        → 0 < length (cond b (a ∷ filter p (range_with_len (a + 1) n))
        (filter p (range_with_len (a + 1) n)))
    go ih true e c = omega arith
    go ih false e (inl l) = ih l
    go ih false e (inr l) = let same : v ≡ a = omega arith in
        absurd (false≢true (sym e ∙ ap p (sym same) ∙ h))

head_in : (p : ℕ → Bool) (k : ℕ) (xs : List ℕ)
    → (first_or k (filter p xs) ≡ k) ⊎ (p (first_or k (filter p xs)) ≡ true)
head_in p k [] = inl refl
head_in p k (x ∷ xs) = go (p x) refl (head_in p k xs)
  where
    go : (b : Bool) → p x ≡ b → (first_or k (filter p xs) ≡ k)
        ⊎ (p (first_or k (filter p xs)) ≡ true)
        → (first_or k (cond b (x ∷ filter p xs) (filter p xs)) ≡ k)
        ⊎ (p (first_or k (cond b (x ∷ filter p xs) (filter p xs))) ≡ true)
    go true e c = inr e
    go false e c = c

first_in : (p : ℕ → Bool) (xs : List ℕ) (v : ℕ) → first_member (filter p xs) ≡ Some v → p v ≡ true
first_in p [] v h = absurd (cc)
first_in p (x ∷ xs) v h = go (p x) refl h (first_in p xs v)
  where
    go : (b : Bool) → p x ≡ b → first_member (cond b (x ∷ filter p xs) (filter p xs)) ≡ Some v
        → (first_member (filter p xs) ≡ Some v → p v ≡ true) → p v ≡ true
    go true e l ih = let same : x ≡ v = cc in ap p (sym same) ∙ e
    go false e l ih = ih l

-- a size above 0 is a member
pub some_member : (s : ℕ) → 0 < size s → (v : ℕ) × (is_in s v ≡ true)
unfolding members
some_member s h = let r = some_left (is_in s) 0 64 h in (r.0, r.3)

pub member-size : (s v : ℕ) → v < 64 → is_in s v ≡ true → 0 < size s
unfolding members
member-size s v l h = left_in (is_in s) 0 64 v (omega arith) (omega arith) h

pub least_in : (k s : ℕ) → least k s < k → is_in s (least k s) ≡ true
unfolding members
least_in k s h = go (head_in (is_in s) k (range_with_len 0 64))
  where
    go : (least k s ≡ k) ⊎ (is_in s (least k s) ≡ true) → is_in s (least k s) ≡ true
    go (inl e) = absurd (omega arith)
    go (inr e) = e

pub decided_in : (s v : ℕ) → first_member (members s) ≡ Some v → is_in s v ≡ true
unfolding members
decided_in s v h = first_in (is_in s) (range_with_len 0 64) v h

no_first : (xs : List ℕ) → first_member xs ≡ None → length xs ≡ 0
no_first [] h = refl
no_first (x ∷ xs) h = absurd (cc)

pub none_decided : (s v : ℕ) → v < 64 → first_member (members s) ≡ None → is_in s v ≡ true → ⊥
unfolding members
none_decided s v l h t =
    let z = no_first (filter (is_in s) (range_with_len 0 64)) h in
    let some = left_in (is_in s) 0 64 v (omega arith) (omega arith) t in
    absurd (omega arith)
