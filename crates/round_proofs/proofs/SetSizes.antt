-- What the size of a set says of its members.
use Rattle.std.proofs.Common.{◌≡◌, ℕ, zero, suc, ◌+◌, ◌<◌, ◌≤◌, Bool, true, false, cond, refl, sym}
use Rattle.std.proofs.Common.{ap}
use Rattle.std.proofs.Common.{◌∙◌, ◌∷◌, inl, inr, ◌⊎◌, Option, Some, None, arith}
use Rattle.std.specs.List.{filter, range_with_len}
use Rattle.std.proofs.lemmas.Bool.{and_from, cases_lt, eq-eqb, false≢true}
use Rattle.std.proofs.lemmas.Bool.{lt-ltb}
use Rattle.std.proofs.lemmas.Bool.{or_left, or_right}
use Rattle.round_lang.specs.Sets.{is_in, least, members, only, size, union}
use Rattle.round_meaning.proofs.Hearing.{count, count-is, some_counted}
use Rattle.round_meaning.proofs.SetMembership.{sets_are_members}
use Rattle.round_meaning.proofs.SetReading.{none_decided, some_member}
use Rattle.round_meaning.specs.Turn.{first_member}
use Rattle.round_proofs.proofs.Counting.{counted_in}

-- if two nodes pass, the count is above 1
pub two_counted : (c : ℕ → Bool) (lo n i j : ℕ) → lo ≤ i → i < j → j < lo + n → c i ≡ true
    → c j ≡ true → 1 < count c lo n
two_counted c lo zero i j l m h e f = absurd (omega arith)
two_counted c lo (suc n) i j l m h e f =
    go (λ p. two_counted c (lo + 1) n i j p m (omega arith) e f)
    (counted_in c (lo + 1) n j (omega arith) (omega arith) f) (cases_lt lo i) (c lo) refl
  where
    go : (lo + 1 ≤ i → 1 < count c (lo + 1) n) → 0 < count c (lo + 1) n → (lo < i) ⊎ (i ≤ lo)
        → (b : Bool) → c lo ≡ b → 1 < cond b 1 0 + count c (lo + 1) n
    go ih some (inl more) b is = let rest = ih (omega arith) in omega arith
    go ih some (inr le) true is = omega arith
    go ih some (inr le) false is =
        let same : i ≡ lo = omega arith in
        absurd (false≢true (sym is ∙ ap c (sym same) ∙ e))

size_counts : (s : ℕ) → size s ≡ count (is_in s) 0 64
size_counts s = sets_are_members.counted s ∙ count-is (is_in s) 0 64

-- if one node at most passes, the count is no more than 1
at_most_one : (c : ℕ → Bool) (lo n v : ℕ)
    → ((j : ℕ) → lo ≤ j → j < lo + n → c j ≡ true → j ≡ v) → count c lo n ≤ 1
at_most_one c lo zero v only = omega arith
at_most_one c lo (suc n) v only =
    go (at_most_one c (lo + 1) n v (λ j p q. only j (omega arith) (omega arith)))
    (cases_lt 0 (count c (lo + 1) n)) (c lo) refl
  where
    go : count c (lo + 1) n ≤ 1 → (0 < count c (lo + 1) n) ⊎ (count c (lo + 1) n ≤ 0)
        → (b : Bool) → c lo ≡ b → cond b 1 0 + count c (lo + 1) n ≤ 1
    go rest none false e = omega arith
    go rest (inr none) true e = omega arith
    go rest (inl some) true e =
        let j = some_counted c (lo + 1) n some in
        let here = only lo (omega arith) (omega arith) e in
        let there = only j.0 (omega (arith, j.1)) (omega (arith, j.2)) j.3 in
        absurd (omega (arith, j.1))

-- a set whose members are all one has size 1
pub one_size : (s v : ℕ) → v < 64 → is_in s v ≡ true
    → ((u : ℕ) → u < 64 → is_in s u ≡ true → u ≡ v) → size s ≡ 1
one_size s v small h only =
    let e = size_counts s in
    let some = counted_in (is_in s) 0 64 v (omega arith) (omega arith) h in
    let few = at_most_one (is_in s) 0 64 v (λ u p q. only u (omega arith)) in
    omega arith

-- a set of one member has one
pub one_member : (s u v : ℕ) → size s ≡ 1 → u < 64 → v < 64 → is_in s u ≡ true → is_in s v ≡ true
    → u ≡ v
one_member s u v one hu hv a b = go (cases_lt u v) (cases_lt v u)
  where
    go : (u < v) ⊎ (v ≤ u) → (v < u) ⊎ (u ≤ v) → u ≡ v
    go (inl l) q =
        let e = size_counts s in
        let two = two_counted (is_in s) 0 64 u v (omega arith) l (omega arith) a b in
        absurd (omega arith)
    go (inr l) (inl m) =
        let e = size_counts s in
        let two = two_counted (is_in s) 0 64 v u (omega arith) m (omega arith) b a in
        absurd (omega arith)
    go (inr l) (inr m) = omega arith

-- the least of a set that isn't empty is a member
pub least_is_in : (k s : ℕ) → 0 < size s → ((v : ℕ) → is_in s v ≡ true → v < 64)
    → is_in s (least k s) ≡ true
least_is_in k s some small =
    let v = some_member s some in
    (sets_are_members.least_member k s v.0 (small v.0 v.1) v.1).0

pub only_itself : (k e : ℕ) → e < k → is_in (only k e) e ≡ true
only_itself k e h = sets_are_members.single k e e ∙ and_from _ _ (lt-ltb e k h) (eq-eqb e e refl)

pub in_left : (a b v : ℕ) → v < 64 → is_in a v ≡ true → is_in (union a b) v ≡ true
in_left a b v l h = sets_are_members.either a b v l ∙ or_left (is_in a v) (is_in b v) h

pub in_right : (a b v : ℕ) → v < 64 → is_in b v ≡ true → is_in (union a b) v ≡ true
in_right a b v l h = sets_are_members.either a b v l ∙ or_right (is_in a v) (is_in b v) h

same_filter : (p q : ℕ → Bool) (lo n : ℕ) → ((v : ℕ) → lo ≤ v → v < lo + n → p v ≡ q v)
    → filter p (range_with_len lo n) ≡ filter q (range_with_len lo n)
same_filter p q lo zero same = refl
same_filter p q lo (suc n) same =
    ap (λ b. cond b (lo ∷ filter p (range_with_len (lo + 1) n))
    (filter p (range_with_len (lo + 1) n))) (same lo (omega arith) (omega arith))
    ∙ ap (λ xs. cond (q lo) (lo ∷ xs) xs)
    (same_filter p q (lo + 1) n (λ v l h. same v (omega arith) (omega arith)))

-- sets with the same members
pub same_members : (a b : ℕ) → ((v : ℕ) → v < 64 → is_in a v ≡ true → is_in b v ≡ true)
    → ((v : ℕ) → v < 64 → is_in b v ≡ true → is_in a v ≡ true) → members a ≡ members b
unfolding members
same_members a b f g = same_filter (is_in a) (is_in b) 0 64
    (λ v l h. same (is_in a v) (is_in b v) (f v (omega arith)) (g v (omega arith)))
  where
    same : (x y : Bool) → (x ≡ true → y ≡ true) → (y ≡ true → x ≡ true) → x ≡ y
    same true y f g = sym (f refl)
    same false true f g = g refl
    same false false f g = refl

-- a set with a member has a first one
pub some_first : (s v : ℕ) → v < 64 → is_in s v ≡ true
    → (u : ℕ) × (first_member (members s) ≡ Some u)
some_first s v small h = go (first_member (members s)) refl
  where
    go : (o : Option ℕ) → first_member (members s) ≡ o
        → (u : ℕ) × (first_member (members s) ≡ Some u)
    go None e = absurd (none_decided s v small e h)
    go (Some u) e = (u, e)
