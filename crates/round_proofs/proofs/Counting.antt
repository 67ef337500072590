-- What the messages of a round keep and count, and when sets of nodes have a node in common.
use Rattle.std.proofs.Common.{◌≡◌, ℕ, zero, suc, ◌+◌, ◌*◌, ◌<◌, ◌≤◌, Bool, true, false, cond, refl}
use Rattle.std.proofs.Common.{ap, ◌∙◌, subst, sym, inl, inr, ◌⊎◌, arith}
use Rattle.std.specs.Prelude.{◌&&◌, not}
use Rattle.std.specs.List.{range_with_len}
use Rattle.std.proofs.lemmas.Bool.{cases_lt, false≢true}
use Rattle.round_meaning.proofs.Hearing.{count, count_more, meet}
use Rattle.round_proofs.specs.Machines.{hear}

-- what each message keeps is true after the round
pub kept : {Node Message : Type 0} (J : Node → Type 0) (take : ℕ → Message → Node → Node)
    (c : ℕ → Bool) (m : ℕ → Message) (lo k : ℕ)
    → ((j : ℕ) → lo ≤ j → j < lo + k → c j ≡ true → (a : Node) → J a → J (take j (m j) a))
    → (a : Node) → J a → J (hear take c m (range_with_len lo k) a)
kept J take c m lo zero step a h = h
kept J take c m lo (suc k) step a h =
    kept J take c m (lo + 1) k (λ j l g. step j (omega arith) (omega arith))
    (cond (c lo) (take lo (m lo) a) a) (go (c lo) refl)
  where
    go : (b : Bool) → c lo ≡ b → J (cond b (take lo (m lo) a) a)
    go true e = step lo (omega arith) (omega arith) e a h
    go false e = h

-- 1 for a node that passes, and else 0
abbrev pub one_if : Bool → ℕ
one_if b = cond b 1 0

one : (x y : Bool) → x ≡ true → one_if y ≡ one_if (x && y)
one true y e = refl
one false y e = absurd cc

none : (x y : Bool) → x ≡ false → 0 ≡ one_if (x && y)
none true y e = absurd cc
none false y e = refl

-- what grows by one with each message of a sender in d is their number, if that is within the limit
pub counted_within : {Node Message : Type 0} (size : Node → ℕ) (d : ℕ → Bool) (limit : ℕ)
    (take : ℕ → Message → Node → Node) (c : ℕ → Bool) (m : ℕ → Message) (lo k : ℕ)
    → ((j : ℕ) → lo ≤ j → j < lo + k → (a : Node) → size a < limit
    → size (take j (m j) a) ≡ size a + cond (d j) 1 0)
    → (a : Node) → size a + k ≤ limit
    → size (hear take c m (range_with_len lo k) a) ≡ size a + count (λ j. c j && d j) lo k
counted_within size d limit take c m lo zero step a room = omega arith
counted_within size d limit take c m lo (suc k) step a room =
    let here = go (c lo) refl in
    let few = small (c lo && d lo) in
    let rest = counted_within size d limit take c m (lo + 1) k
    (λ j p q. step j (omega arith) (omega arith)) (cond (c lo) (take lo (m lo) a) a) (omega arith)
    in
    omega arith
  where
    small : (b : Bool) → cond b 1 0 ≤ 1
    small true = omega arith
    small false = omega arith

    go : (b : Bool) → c lo ≡ b
        → size (cond b (take lo (m lo) a) a) ≡ size a + cond (c lo && d lo) 1 0
    go true e =
        step lo (omega arith) (omega arith) a (omega arith)
        ∙ ap (λ n. size a + n) (one (c lo) (d lo) e)
    go false e = let z = none (c lo) (d lo) e in omega arith

pub counted : {Node Message : Type 0} (size : Node → ℕ) (d : ℕ → Bool) (limit : ℕ)
    (take : ℕ → Message → Node → Node) (c : ℕ → Bool) (m : ℕ → Message) (lo k : ℕ)
    → ((j : ℕ) (a : Node) → size a < limit → size (take j (m j) a) ≡ size a + cond (d j) 1 0)
    → (a : Node) → size a + k ≤ limit
    → size (hear take c m (range_with_len lo k) a) ≡ size a + count (λ j. c j && d j) lo k
counted size d limit take c m lo k step a room =
    counted_within size d limit take c m lo k (λ j p q. step j) a room

all_true : (c : ℕ → Bool) (lo n : ℕ) → count (λ j. c j && true) lo n ≡ count c lo n
all_true c lo zero = refl
all_true c lo (suc n) = let rest = all_true c (lo + 1) n in let here = go (c lo) in omega arith
  where
    go : (b : Bool) → one_if (b && true) ≡ one_if b
    go true = refl
    go false = refl

-- what grows by one with each message is the number of messages
pub counted_all : {Node Message : Type 0} (size : Node → ℕ) (limit : ℕ)
    (take : ℕ → Message → Node → Node) (c : ℕ → Bool) (m : ℕ → Message) (lo k : ℕ)
    → ((j : ℕ) (a : Node) → size a < limit → size (take j (m j) a) ≡ size a + 1)
    → (a : Node) → size a + k ≤ limit
    → size (hear take c m (range_with_len lo k) a) ≡ size a + count c lo k
counted_all size limit take c m lo k step a room =
    counted size (λ j. true) limit take c m lo k step a room
    ∙ ap (λ n. size a + n) (all_true c lo k)

-- a set and its complement are all nodes
pub count_rest : (d : ℕ → Bool) (lo n : ℕ) → count d lo n + count (λ j. not (d j)) lo n ≡ n
count_rest d lo zero = refl
count_rest d lo (suc n) =
    let rest = count_rest d (lo + 1) n in
    let here = go (d lo) in
    omega arith
  where
    go : (b : Bool) → cond b 1 0 + cond (not b) 1 0 ≡ 1
    go true = refl
    go false = refl

-- a set is what it has in common with another, and the rest of it
pub count_split : (c d : ℕ → Bool) (lo n : ℕ)
    → count c lo n ≡ count (λ j. c j && d j) lo n + count (λ j. c j && not (d j)) lo n
count_split c d lo zero = refl
count_split c d lo (suc n) =
    let rest = count_split c d (lo + 1) n in
    let here = go (c lo) (d lo) in
    omega arith
  where
    go : (x y : Bool) → one_if x ≡ one_if (x && y) + one_if (x && not y)
    go true true = refl
    go true false = refl
    go false y = refl

-- two majorities share a node
pub majorities_meet : (c d : ℕ → Bool) (n : ℕ) → n < 2 * count c 0 n → n < 2 * count d 0 n
    → (j : ℕ) × (j < n) × (c j ≡ true) × (d j ≡ true)
majorities_meet c d n a b =
    let x = meet c d 0 n (omega arith) in
    (x.0, omega (arith, x.2), x.3, x.4)

-- if a node passes, the count is above 0
pub counted_in : (c : ℕ → Bool) (lo n j : ℕ) → lo ≤ j → j < lo + n → c j ≡ true
    → 0 < count c lo n
counted_in c lo zero j l h e = absurd (omega arith)
counted_in c lo (suc n) j l h e =
    go (λ m. counted_in c (lo + 1) n j m (omega arith) e) (cases_lt lo j) (c lo) refl
  where
    go : (lo + 1 ≤ j → 0 < count c (lo + 1) n) → (lo < j) ⊎ (j ≤ lo) → (b : Bool) → c lo ≡ b
        → 0 < cond b 1 0 + count c (lo + 1) n
    go ih (inl more) b is = let rest = ih (omega arith) in omega arith
    go ih (inr le) true is = omega arith
    go ih (inr le) false is =
        let same : j ≡ lo = omega arith in
        absurd (false≢true (sym is ∙ ap c (sym same) ∙ e))

-- if all are counted, each of them passes
pub all_counted : (c : ℕ → Bool) (n : ℕ) → count c 0 n ≡ n → (j : ℕ) → j < n → c j ≡ true
all_counted c n all j hj = go (c j) refl
  where
    go : (b : Bool) → c j ≡ b → b ≡ true
    go true e = refl
    go false e =
        let rest = count_rest c 0 n in
        let some = counted_in (λ i. not (c i)) 0 n j (omega arith) (omega arith) (ap not e) in
        absurd (omega arith)

-- what one message that is heard brings, and all others keep, is true after the round
pub gained : {Node Message : Type 0} (Q : Node → Type 0) (take : ℕ → Message → Node → Node)
    (c : ℕ → Bool) (m : ℕ → Message) (lo k j : ℕ) → lo ≤ j → j < lo + k → c j ≡ true
    → ((a : Node) → Q (take j (m j) a)) → ((i : ℕ) (a : Node) → Q a → Q (take i (m i) a))
    → (a : Node) → Q (hear take c m (range_with_len lo k) a)
gained Q take c m lo zero j l h e brings keeps a = absurd (omega arith)
gained {Node = Node} Q take c m lo (suc k) j l h e brings keeps a =
    go (λ p. gained Q take c m (lo + 1) k j p (omega arith) e brings keeps
    (cond (c lo) (take lo (m lo) a) a)) (cases_lt lo j)
  where
    here : j ≤ lo → (b : Bool) → c lo ≡ b → Q (cond b (take lo (m lo) a) a)
    here le true is = let same : j ≡ lo = omega arith in
        subst (λ i. Q (take i (m i) a)) same (brings a)
    here le false is = let same : j ≡ lo = omega arith in
        absurd (false≢true (sym is ∙ ap c (sym same) ∙ e))

    go : (lo + 1 ≤ j → Q (hear take c m (range_with_len (lo + 1) k)
        (cond (c lo) (take lo (m lo) a) a)))
        → (lo < j) ⊎ (j ≤ lo)
        → Q (hear take c m (range_with_len (lo + 1) k) (cond (c lo) (take lo (m lo) a) a))
    go ih (inl more) = ih (omega arith)
    go ih (inr le) =
        kept Q take c m (lo + 1) k (λ i p q t b h. keeps i b h) (cond (c lo) (take lo (m lo) a) a)
        (here le (c lo) refl)

-- a set that counts no more nodes than one within it has no others
pub no_more : (c d : ℕ → Bool) (lo n : ℕ) → ((j : ℕ) → lo ≤ j → j < lo + n → c j ≡ true → d j
    ≡ true)
    → count d lo n ≤ count c lo n → (j : ℕ) → lo ≤ j → j < lo + n → d j ≡ true → c j ≡ true
no_more c d lo zero within few j l h e = absurd (omega arith)
no_more c d lo (suc n) within few j l h e =
    go (no_more c d (lo + 1) n rest) (count_more c d (lo + 1) n rest) (c lo) (d lo) refl refl few
    (within lo (omega arith) (omega arith)) (cases_lt lo j)
  where
    rest : (i : ℕ) → lo + 1 ≤ i → i < lo + 1 + n → c i ≡ true → d i ≡ true
    rest i p q t = within i (omega arith) (omega arith) t

    here : j ≤ lo → c lo ≡ true → c j ≡ true
    here le t = let same : lo ≡ j = omega arith in ap c (sym same) ∙ t

    head : j ≤ lo → d lo ≡ true
    head le = let same : lo ≡ j = omega arith in ap d same ∙ e

    go : (count d (lo + 1) n ≤ count c (lo + 1) n → (i : ℕ) → lo + 1 ≤ i → i < lo + 1 + n
        → d i ≡ true → c i ≡ true)
        → count c (lo + 1) n ≤ count d (lo + 1) n → (x y : Bool) → c lo ≡ x → d lo ≡ y
        → cond y 1 0 + count d (lo + 1) n ≤ cond x 1 0 + count c (lo + 1) n
        → (c lo ≡ true → d lo ≡ true) → (lo < j) ⊎ (j ≤ lo) → c j ≡ true
    go ih more x y p q le up (inr at) = last x y p q le
      where
        last : (x y : Bool) → c lo ≡ x → d lo ≡ y
            → cond y 1 0 + count d (lo + 1) n ≤ cond x 1 0 + count c (lo + 1) n → c j ≡ true
        last true y p q le = here at p
        last false true p q le = absurd (omega arith)
        last false false p q le = absurd (false≢true (sym q ∙ head at))
    go ih more true true p q le up (inl after) = ih (omega arith) j (omega arith) (omega arith) e
    go ih more true false p q le up (inl after) = absurd (false≢true (sym q ∙ up p))
    go ih more false true p q le up (inl after) = ih (omega arith) j (omega arith) (omega arith) e
    go ih more false false p q le up (inl after) = ih (omega arith) j (omega arith) (omega arith) e
