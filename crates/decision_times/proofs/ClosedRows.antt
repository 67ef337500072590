-- A closed round of a node has a row.
use Rattle.std.proofs.Common.{◌≡◌, ℕ, zero, suc, ◌+◌, ◌<◌, ◌≤◌, Bool, true, false, cond, List, []}
use Rattle.std.proofs.Common.{◌∷◌}
use Rattle.std.proofs.Common.{map, ◌++◌, sym, ap, ◌∙◌, subst, inl, inr, ◌⊎◌, arith}
use Rattle.std.specs.Prelude.{IsSome, filter}
use Rattle.std.specs.List.{flat_map, range_with_len}
use Rattle.std.proofs.lemmas.Bool.{cases_lt, lt-ltb}
use Rattle.std.proofs.lemmas.List.Elements.{All-head, All-tail}
use Rattle.omission_explainer.specs.Reported.{closed_below, closed_rounds, is_closed, place}
use Rattle.omission_explainer.specs.Rows.{ClosedRound}
use Rattle.round_lang.specs.Sets.{is_in}
use Rattle.step_book.specs.Log.{Log, round_of}
use Rattle.decision_times.specs.InTime.{HasDecision, HaveDecidedBy}

abbrev In : {X : Type 0} → X → List X → Type 0
In p [] = ⊥
In p (x ∷ xs) = (x ≡ p) ⊎ In p xs

in_left : {X : Type 0} (p : X) (xs ys : List X) → In p xs → In p (xs ++ ys)
in_left p [] ys h = absurd h
in_left p (x ∷ xs) ys (inl e) = inl e
in_left p (x ∷ xs) ys (inr h) = inr (in_left p xs ys h)

in_right : {X : Type 0} (p : X) (xs ys : List X) → In p ys → In p (xs ++ ys)
in_right p [] ys h = h
in_right p (x ∷ xs) ys h = inr (in_right p xs ys h)

in_range : {X : Type 0} (f : ℕ → X) (lo n i : ℕ) → lo ≤ i → i < lo + n
    → In (f i) (map f (range_with_len lo n))
in_range f lo zero i l h = absurd (omega arith)
in_range f lo (suc n) i l h =
    go (λ m. in_range f (lo + 1) n i m (omega arith)) (cases_lt lo i)
  where
    go : (lo + 1 ≤ i → In (f i) (map f (range_with_len (lo + 1) n))) → (lo < i) ⊎ (i ≤ lo)
        → In (f i) (f lo ∷ map f (range_with_len (lo + 1) n))
    go ih (inl m) = inr (ih (omega arith))
    go ih (inr m) = let e : lo ≡ i = omega arith in inl (ap f e)

in_filter : {X : Type 0} (c : X → Bool) (p : X) (xs : List X) → c p ≡ true → In p xs
    → In p (filter c xs)
in_filter c p [] t h = absurd h
in_filter {X} c p (x ∷ xs) t (inl e) = go (c x) (ap c e ∙ t)
  where
    go : (b : Bool) → b ≡ true → In p (cond b (x ∷ filter c xs) (filter c xs))
    go true u = inl e
    go false u = absurd (cc)
in_filter {X} c p (x ∷ xs) t (inr h) = go (c x) (in_filter c p xs t h)
  where
    go : (b : Bool) → In p (filter c xs) → In p (cond b (x ∷ filter c xs) (filter c xs))
    go true u = inr u
    go false u = u

in_all : {X : Type 0} (f : ℕ → List X) (p : X) (lo n r : ℕ) → lo ≤ r → r < lo + n → In p (f r)
    → In p (flat_map f (range_with_len lo n))
in_all f p lo zero r l h t = absurd (omega arith)
in_all f p lo (suc n) r l h t =
    go (λ m. in_all f p (lo + 1) n r m (omega arith) t) (cases_lt lo r)
  where
    go : (lo + 1 ≤ r → In p (flat_map f (range_with_len (lo + 1) n))) → (lo < r) ⊎ (r ≤ lo)
        → In p (f lo ++ flat_map f (range_with_len (lo + 1) n))
    go ih (inl m) = in_right p (f lo) (flat_map f (range_with_len (lo + 1) n)) (ih (omega arith))
    go ih (inr m) = let e : r ≡ lo = omega arith in
        in_left p (f lo) (flat_map f (range_with_len (lo + 1) n)) (subst (λ q. In p (f q)) e t)

abbrev Decided : (members from : ℕ) → ClosedRound → Type 0
Decided members from row = is_in members row.node ≡ true → from ≤ row.round → IsSome row.decision

found : (members from i r : ℕ) (rows : List ClosedRound) → is_in members i ≡ true → from ≤ r
    → HaveDecidedBy members from rows → In (r, i) (map place rows) → HasDecision i r rows
found members from i r [] live past all h = absurd h
found members from i r (row ∷ rows) live past all (inl e) =
    let node : row.node ≡ i = ap (λ (p : ℕ × ℕ). p.1) e in
    let round : row.round ≡ r = ap (λ (p : ℕ × ℕ). p.0) e in
    inl (
      node,
      round,
      All-head (Decided members from) row rows all (ap (is_in members) node ∙ live)
          (omega arith),
    )
found members from i r (row ∷ rows) live past all (inr h) =
    inr (found members from i r rows live past (All-tail (Decided members from) row rows all) h)

pub row_decides : (v : Log) (members from i r : ℕ) (rows : List ClosedRound)
    → map place rows ≡ closed_rounds v → HaveDecidedBy members from rows → i < v.setup.nodes
    → is_in members i ≡ true → from ≤ r → 1 ≤ r → r ≤ v.setup.rounds → r < round_of v i
    → HasDecision i r rows
row_decides v members from i r rows listed all hi live past begun last closed =
    found members from i r rows live past all
    (subst (λ ps. In (r, i) ps) (sym listed)
    (in_all (closed_below v v.setup.nodes) (r, i) 1 v.setup.rounds r begun (omega arith)
    (in_filter (is_closed v) (r, i) (map (λ i. (r, i)) (range_with_len 0 v.setup.nodes))
    (lt-ltb r (round_of v i) closed)
    (in_range (λ i. (r, i)) 0 v.setup.nodes i (omega arith) (omega arith)))))
