-- Members of lists.
use Rattle.std.proofs.Common.{◌≡◌, ◌⊎◌, ℕ, zero, suc, ◌+◌, ◌-◌, ◌<◌, ◌≤◌, Bool, true, false, cond}
use Rattle.std.proofs.Common.{List, [], ◌∷◌, ◌∙◌, length, map, get_or, Some, ap, arith, refl, subst}
use Rattle.std.proofs.Common.{inl, inr}
use Rattle.std.specs.Prelude.{All, Contains, filter}
use Rattle.std.specs.List.{flat_map, range_with_len}
use Rattle.std.proofs.lemmas.Bool.{cases_lt}
use Rattle.std.proofs.lemmas.List.{get_or-map, length-map}
use Rattle.std.proofs.lemmas.List.Elements.{All-append, All-cons, All-contains, All-head, All-nil}
use Rattle.std.proofs.lemmas.List.Elements.{All-tail, All-weaker}
use Rattle.std.proofs.lemmas.List.Elements.{Contains-append_left, Contains-append_right}
use Rattle.std.proofs.lemmas.List.FromFn.{get_or-map-range_with_len, length-map-range_with_len}
use Rattle.omission_explainer.specs.Decided.{IsDecided}
use Rattle.omission_explainer.specs.Rows.{ClosedRound}

pub in_head : {X : Type 0} (x : X) (xs : List X) → Contains (x ∷ xs) x
in_head x xs = (0, omega arith, refl)

pub in_tail : {X : Type 0} (x y : X) (xs : List X) → Contains xs y → Contains (x ∷ xs) y
in_tail x y xs h = Contains-append_right (x ∷ []) xs y h

-- ---- what passes a test

passed : {X : Type 0} (b : Bool) (x : X) (xs : List X) → b ≡ true → Contains (cond b (x ∷ xs) xs) x
passed true x xs e = in_head x xs
passed false x xs e = absurd cc

stays : {X : Type 0} (b : Bool) (x y : X) (xs : List X) → Contains xs y
    → Contains (cond b (x ∷ xs) xs) y
stays true x y xs h = in_tail x y xs h
stays false x y xs h = h

abbrev IsKept : {X : Type 0} → (X → Bool) → List X → X → Type 0
IsKept p kept x = p x ≡ true → Contains kept x

all_kept : {X : Type 0} (p : X → Bool) (xs : List X) → All (IsKept p (filter p xs)) xs
all_kept p [] = All-nil (IsKept p [])
all_kept p (x ∷ xs) = All-cons (IsKept p (filter p (x ∷ xs))) x xs (passed (p x) x (filter p xs))
    (All-weaker (IsKept p (filter p xs)) (IsKept p (filter p (x ∷ xs)))
    (λ y h e. stays (p x) x y (filter p xs) (h e)) xs (all_kept p xs))

pub in_filter : {X : Type 0} (p : X → Bool) (xs : List X) (x : X) → Contains xs x → p x ≡ true
    → Contains (filter p xs) x
in_filter p xs x h e = All-contains (IsKept p (filter p xs)) xs x (all_kept p xs) h e

-- ---- what is made of numbers

pub in_range : {X : Type 0} (f : ℕ → X) (a n k : ℕ) → a ≤ k → k < a + n
    → Contains (map f (range_with_len a n)) (f k)
in_range f a n k low high = (
  k - a,
  omega (arith, length-map-range_with_len f a n),
  get_or-map-range_with_len f a n (k - a) k (f k) (omega arith) (omega arith),
)

pub in_flat : {X : Type 0} (f : ℕ → List X) (a n k : ℕ) (x : X) → a ≤ k → k < a + n
    → Contains (f k) x → Contains (flat_map f (range_with_len a n)) x
in_flat f a zero k x low high h = absurd (omega arith)
in_flat f a (suc n) k x low high h =
    by (cases_lt a k) (λ l. in_flat f (a + 1) n k x (omega arith) (omega arith) h)
  where
    by : (a < k) ⊎ (k ≤ a) → (a < k → Contains (flat_map f (range_with_len (a + 1) n)) x)
        → Contains (flat_map f (range_with_len a (suc n))) x
    by (inl l) rest =
        Contains-append_right (f a) (flat_map f (range_with_len (a + 1) n)) x (rest l)
    by (inr g) rest = let e : k ≡ a = omega arith in Contains-append_left (f a)
        (flat_map f (range_with_len (a + 1) n)) x (subst (λ m. Contains (f m) x) e h)

-- what holds of all that is made of numbers
pub all_range : {X : Type 0} (P : X → Type 0) (f : ℕ → X) (a n : ℕ)
    → ((k : ℕ) → a ≤ k → k < a + n → P (f k)) → All P (map f (range_with_len a n))
all_range P f a zero h = All-nil P
all_range P f a (suc n) h =
    All-cons P (f a) (map f (range_with_len (a + 1) n)) (h a (omega arith) (omega arith))
    (all_range P f (a + 1) n (λ k low high. h k (omega arith) (omega arith)))

pub all_flat : {X : Type 0} (P : X → Type 0) (f : ℕ → List X) (a n : ℕ)
    → ((k : ℕ) → a ≤ k → k < a + n → All P (f k)) → All P (flat_map f (range_with_len a n))
all_flat P f a zero h = All-nil P
all_flat P f a (suc n) h = All-append P (f a) (flat_map f (range_with_len (a + 1) n))
    (h a (omega arith) (omega arith))
    (all_flat P f (a + 1) n (λ k low high. h k (omega arith) (omega arith)))

-- ---- what something was made of

pub all_made : {X Y : Type 0} (P : Y → Type 0) (f : X → Y) (xs : List X) → All P (map f xs)
    → All (λ x. P (f x)) xs
all_made P f [] h = All-nil (λ x. P (f x))
all_made P f (x ∷ xs) h = All-cons (λ y. P (f y)) x xs (All-head P (f x) (map f xs) h)
    (all_made P f xs (All-tail P (f x) (map f xs) h))

pub record IsMadeOf {X Y : Type 0} (f : X → Y) (xs : List X) (y : Y) : Type 0 where
  pub from : X
  pub among : Contains xs from
  pub gives : f from ≡ y

made_at : {X Y : Type 0} (f : X → Y) (xs : List X) (y : Y) (k : ℕ) → k < length (map f xs)
    → get_or (map f xs) k y ≡ y → IsMadeOf f xs y
made_at f [] y k l e = absurd (omega arith)
made_at f (x ∷ xs) y zero l e = record { from = x; among = in_head x xs; gives = e }
made_at f (x ∷ xs) y (suc k) l e =
    let made = made_at f xs y k (omega arith) e in
    record { from = made.from; among = in_tail x made.from xs made.among; gives = made.gives }

pub made_of : {X Y : Type 0} (f : X → Y) (xs : List X) (y : Y) → Contains (map f xs) y
    → IsMadeOf f xs y
made_of f xs y h = made_at f xs y h.0 h.1 h.2

pub in_map : {X Y : Type 0} (f : X → Y) (xs : List X) (x : X) → Contains xs x
    → Contains (map f xs) (f x)
in_map f xs x h =
    (h.0, omega (arith, h.1, length-map xs f), get_or-map f xs h.0 x (f x) h.1 ∙ ap f h.2)

-- ---- decisions of rows

abbrev IsTold : List ClosedRound → ClosedRound → Type 0
IsTold rows row = (v : ℕ) → row.decision ≡ Some v → IsDecided rows v

all_told : (rows : List ClosedRound) → All (IsTold rows) rows
all_told [] = All-nil (IsTold [])
all_told (row ∷ rows) = All-cons (IsTold (row ∷ rows)) row rows (λ v e. inl e)
    (All-weaker (IsTold rows) (IsTold (row ∷ rows)) (λ x h v e. inr (h v e)) rows (all_told rows))

pub told : (rows : List ClosedRound) (row : ClosedRound) (v : ℕ) → Contains rows row
    → row.decision ≡ Some v → IsDecided rows v
told rows row v h e = All-contains (IsTold rows) rows row (all_told rows) h v e
