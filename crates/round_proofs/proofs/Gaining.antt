-- What is true of a node after any message is true after a round in which it hears one, and nodes
-- that hear the same end alike.
use Rattle.std.proofs.Common.{◌≡◌, ℕ, zero, suc, ◌+◌, ◌<◌, ◌≤◌, Bool, true, false, cond, refl}
use Rattle.std.proofs.Common.{ap, ◌∙◌, sym, inl, inr, ◌⊎◌, arith}
use Rattle.std.specs.List.{range_with_len}
use Rattle.std.proofs.lemmas.Bool.{cases_lt, false≢true}
use Rattle.round_proofs.specs.Machines.{hear}
use Rattle.round_proofs.proofs.Counting.{kept}

-- what each message brings is true after a round in which some node is heard
pub gained_if : {Node Message : Type 0} (Q : Node → Type 0) (take : ℕ → Message → Node → Node)
    (c : ℕ → Bool) (m : ℕ → Message) (lo k j : ℕ) → lo ≤ j → j < lo + k → c j ≡ true
    → ((i : ℕ) → lo ≤ i → i < lo + k → c i ≡ true → (a : Node) → Q (take i (m i) a))
    → (a : Node) → Q (hear take c m (range_with_len lo k) a)
gained_if Q take c m lo zero j l h e brings a = absurd (omega arith)
gained_if {Node = Node} Q take c m lo (suc k) j l h e brings a =
    go (λ p. gained_if Q take c m (lo + 1) k j p (omega arith) e rest
    (cond (c lo) (take lo (m lo) a) a)) (cases_lt lo j)
  where
    rest : (i : ℕ) → lo + 1 ≤ i → i < lo + 1 + k → c i ≡ true → (b : Node) → Q (take i (m i) b)
    rest i p q = brings i (omega arith) (omega arith)

    here : j ≤ lo → (b : Bool) → c lo ≡ b → Q (cond b (take lo (m lo) a) a)
    here le true is = brings lo (omega arith) (omega arith) is a
    here le false is = let same : j ≡ lo = omega arith in
        absurd (false≢true (sym is ∙ ap c (sym same) ∙ e))

    go : (lo + 1 ≤ j → Q (hear take c m (range_with_len (lo + 1) k)
        (cond (c lo) (take lo (m lo) a) a)))
        → (lo < j) ⊎ (j ≤ lo)
        → Q (hear take c m (range_with_len (lo + 1) k) (cond (c lo) (take lo (m lo) a) a))
    go ih (inl more) = ih (omega arith)
    go ih (inr le) =
        kept Q take c m (lo + 1) k (λ i p q t b h. rest i p q t b)
        (cond (c lo) (take lo (m lo) a) a)
        (here le (c lo) refl)

-- a part of two nodes that is the same, and on which each message has the same effect, stays the
-- same if they hear the same nodes
pub alike : {Node Message Part : Type 0} (part : Node → Part) (effect : ℕ → Part → Part)
    (take take' : ℕ → Message → Node → Node) (c d : ℕ → Bool) (m m' : ℕ → Message) (lo k : ℕ)
    → ((j : ℕ) → lo ≤ j → j < lo + k → c j ≡ d j)
    → ((j : ℕ) (a : Node) → part (take j (m j) a) ≡ effect j (part a))
    → ((j : ℕ) (a : Node) → part (take' j (m' j) a) ≡ effect j (part a))
    → (a b : Node) → part a ≡ part b
    → part (hear take c m (range_with_len lo k) a) ≡ part (hear take' d m' (range_with_len lo k) b)
alike part effect take take' c d m m' lo zero same left right a b e = e
alike {Node = Node} part effect take take' c d m m' lo (suc k) same left right a b e =
    alike part effect take take' c d m m' (lo + 1) k
    (λ j p q. same j (omega arith) (omega arith)) left right (cond (c lo) (take lo (m lo) a) a)
    (cond (d lo) (take' lo (m' lo) b) b) (go (c lo) (d lo) (same lo (omega arith) (omega arith)))
  where
    go : (x y : Bool) → x ≡ y
        → part (cond x (take lo (m lo) a) a) ≡ part (cond y (take' lo (m' lo) b) b)
    go true true f = left lo a ∙ ap (effect lo) e ∙ sym (right lo b)
    go true false f = absurd (false≢true (sym f))
    go false true f = absurd (false≢true f)
    go false false f = e
