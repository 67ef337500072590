-- What the messages of a round keep and count.
use Rattle.std.proofs.Common.{◌≡◌, ℕ, zero, suc, ◌+◌, ◌<◌, ◌≤◌, Bool, true, false, cond, ◌∷◌}
use Rattle.std.proofs.Common.{length, refl, sym, ◌∙◌, arith}
use Rattle.std.specs.List.{range_with_len, count_by, filter}
use Rattle.std.proofs.lemmas.List.Sums.{length-filter}
use Rattle.std.proofs.lemmas.Bool.{false≢true}
use Rattle.round_meaning.proofs.PhaseSteps.{Node, Message, hear}

-- how many of n numbers from a on pass
abbrev pub count : (ℕ → Bool) → ℕ → ℕ → ℕ
count c a zero = 0
count c a (suc n) = cond (c a) 1 0 + count c (a + 1) n

-- what each message keeps is kept
pub kept : (J : Node → Type 0) (take : Node → Message → Node) (c : ℕ → Bool) (m : ℕ
    → Message) (a k : ℕ)
    → ((j : ℕ) → a ≤ j → j < a + k → c j ≡ true → (n : Node) → J n → J (take n (m j)))
    → (n : Node) → J n → J (hear take c m (range_with_len a k) n)
kept J take c m a zero step n h = h
kept J take c m a (suc k) step n h =
    kept J take c m (a + 1) k (λ j lo hi. step j (omega arith) (omega arith))
    (cond (c a) (take n (m a)) n) (go (c a) refl)
  where
    go : (b : Bool) → c a ≡ b → J (cond b (take n (m a)) n)
    go true e = step a (omega arith) (omega arith) e n h
    go false e = h

-- what grows by at most one for a message of a sender in d is at most d's number
pub counted : (size : Node → ℕ) (d : ℕ → Bool) (take : Node → Message → Node) (c : ℕ → Bool) (m : ℕ
    → Message) (a k : ℕ)
    → ((j : ℕ) → c j ≡ true → (n : Node) → size (take n (m j)) ≤ size n + cond (d j) 1 0)
    → (n : Node) → size (hear take c m (range_with_len a k) n) ≤ size n + count d a k
counted size d take c m a zero step n = omega arith
counted size d take c m a (suc k) step n =
    let rest = counted size d take c m (a + 1) k step (cond (c a) (take n (m a)) n) in
    let here = go (c a) refl in
    omega arith
  where
    go : (b : Bool) → c a ≡ b → size (cond b (take n (m a)) n) ≤ size n + cond (d a) 1 0
    go true e = step a e n
    go false e = omega arith

-- two sets of which together there are more than n share a member
pub meet : (c d : ℕ → Bool) (a n : ℕ) → n < count c a n + count d a n
    → (j : ℕ) × (a ≤ j) × (j < a + n) × (c j ≡ true) × (d j ≡ true)
meet c d a zero h = absurd (omega arith)
meet c d a (suc n) h = go (meet c d (a + 1) n) (c a) (d a) refl refl h
  where
    go : (n < count c (a + 1) n + count d (a + 1) n
        → (j : ℕ) × (a + 1 ≤ j) × (j < a + 1 + n) × (c j ≡ true) × (d j ≡ true)) → (x y : Bool)
        → c a ≡ x → d a ≡ y
        → suc n < cond x 1 0 + count c (a + 1) n + (cond y 1 0 + count d (a + 1) n)
        → (j : ℕ) × (a ≤ j) × (j < a + suc n) × (c j ≡ true) × (d j ≡ true)
    go ih true true e f l = (a, omega arith, omega arith, e, f)
    go ih true false e f l = let r = ih (omega arith) in (r.0, omega arith, omega arith, r.3, r.4)
    go ih false true e f l = let r = ih (omega arith) in (r.0, omega arith, omega arith, r.3, r.4)
    go ih false false e f l = let r = ih (omega arith) in (r.0, omega arith, omega arith, r.3, r.4)

pub some_counted : (c : ℕ → Bool) (a n : ℕ) → 0 < count c a n
    → (j : ℕ) × (a ≤ j) × (j < a + n) × (c j ≡ true)
some_counted c a zero h = absurd (omega arith)
some_counted c a (suc n) h = go (some_counted c (a + 1) n) (c a) refl h
  where
    go : (0 < count c (a + 1) n → (j : ℕ) × (a + 1 ≤ j) × (j < a + 1 + n) × (c j ≡ true))
        → (x : Bool) → c a ≡ x → 0 < cond x 1 0 + count c (a + 1) n
        → (j : ℕ) × (a ≤ j) × (j < a + suc n) × (c j ≡ true)
    go ih true e l = (a, omega arith, omega arith, e)
    go ih false e l = let r = ih (omega arith) in (r.0, omega arith, omega arith, r.3)

-- a count is std's count over the numbers
kept_count : (c : ℕ → Bool) (a n : ℕ) → length (filter c (range_with_len a n)) ≡ count c a n
kept_count c a zero = refl
kept_count c a (suc n) = go (c a) (kept_count c (a + 1) n)
  where
    go : (b : Bool) → length (filter c (range_with_len (a + 1) n)) ≡ count c (a + 1) n
        → length (cond b (a ∷ filter c (range_with_len (a + 1) n))
        (filter c (range_with_len (a + 1) n))) ≡ cond b 1 0 + count c (a + 1) n
    go true e = omega arith
    go false e = omega arith

pub count-is : (c : ℕ → Bool) (a n : ℕ) → count_by c (range_with_len a n) ≡ count c a n
count-is c a n = sym (length-filter c (range_with_len a n)) ∙ kept_count c a n

-- a test that passes where another does counts no less
pub count_more : (c d : ℕ → Bool) (a n : ℕ)
    → ((j : ℕ) → a ≤ j → j < a + n → c j ≡ true → d j ≡ true) → count c a n ≤ count d a n
count_more c d a zero h = omega arith
count_more c d a (suc n) h =
    let rest = count_more c d (a + 1) n (λ j lo hi. h j (omega arith) (omega arith)) in
    let here = go (c a) (d a) (h a (omega arith) (omega arith)) in
    omega arith
  where
    go : (x y : Bool) → (x ≡ true → y ≡ true) → cond x 1 0 ≤ cond y 1 0
    go true true f = omega arith
    go true false f = absurd (false≢true (f refl))
    go false true f = omega arith
    go false false f = omega arith
