-- How messages are added to a table.
use Rattle.std.proofs.Common.{◌≡◌, ℕ, zero, suc, ◌+◌, ◌<◌, ◌≤◌, Bool, true, false, eqb, leb, ltb}
use Rattle.std.proofs.Common.{◌&&◌, ◌||◌, List, length, take, get_or, refl, sym, ap, ◌∙◌, subst}
use Rattle.std.proofs.Common.{arith, max}
use Rattle.std.specs.Prelude.{◌==◌, OnOk, Ok, Err, Result}
use Rattle.std.specs.List.{filter, list_any, range_with_len}
use Rattle.std.proofs.lemmas.Bool.{eqb-true}
use Rattle.std.proofs.lemmas.Bool.Decides.{nat_tests}
use Rattle.std.proofs.lemmas.List.{take_all}
use Rattle.std.proofs.lemmas.List.Folds.{list_any_more}
use Rattle.std.proofs.lemmas.Map.Views.{any-filter_same}
use Rattle.round_meaning.specs.declared.omissions.Omission.{Omission}
use Rattle.round_meaning.specs.Omissions.{AddsOmission, is_omitted}
use Rattle.omission_texts.specs.declared.line.RoundRange.{RoundRange}
use Rattle.omission_texts.specs.Meaning.{has_node, has_round}
use Rattle.omission_texts.specs.Tables.{Adds, block}

or_assoc : (a b c : Bool) → (a || (b || c)) ≡ ((a || b) || c)
or_assoc true b c = refl
or_assoc false b c = refl

-- nothing is added, and more is added than before
pub adds_none : (f : ℕ → ℕ → ℕ → Bool) (t : List Omission) → ((i r j : ℕ) → f i r j ≡ false)
    → Adds f t t
adds_none f t none = record {
  added = λ i r j. ap (λ b. b || is_omitted t i r j) (sym (none i r j));
}

pub adds_more : (f g h : ℕ → ℕ → ℕ → Bool) (a b c : List Omission) → Adds f a b → Adds g b c
    → ((i r j : ℕ) → h i r j ≡ (g i r j || f i r j)) → Adds h a c
adds_more f g h a b c x y e = record {
  added = λ i r j.
      y.added i r j ∙ ap (λ o. g i r j || o) (x.added i r j)
      ∙ or_assoc (g i r j) (f i r j) (is_omitted a i r j)
      ∙ ap (λ m. m || is_omitted a i r j) (sym (e i r j));
}

pub adds_same : (f g : ℕ → ℕ → ℕ → Bool) (a b : List Omission) → Adds f a b
    → ((i r j : ℕ) → g i r j ≡ f i r j) → Adds g a b
adds_same f g a b x e = record {
  added = λ i r j. x.added i r j
      ∙ ap (λ m. m || is_omitted a i r j) (sym (e i r j));
}

split_and : (a b x : Bool) → ((a || b) && x) ≡ ((b && x) || (a && x))
split_and true true true = refl
split_and true true false = refl
split_and true false true = refl
split_and true false false = refl
split_and false true true = refl
split_and false true false = refl
split_and false false x = refl

split_last : (x y a b : Bool) → (x && (y && (a || b))) ≡ ((x && (y && b)) || (x && (y && a)))
split_last true true true true = refl
split_last true true true false = refl
split_last true true false true = refl
split_last true true false false = refl
split_last true false a b = refl
split_last false y a b = refl

split_middle : (x a b y : Bool) → (x && ((a || b) && y)) ≡ ((x && (a && y)) || (x && (b && y)))
split_middle true true true true = refl
split_middle true true true false = refl
split_middle true true false true = refl
split_middle true true false false = refl
split_middle true false b y = refl
split_middle false a b y = refl

and_false : (a : Bool) → (a && false) ≡ false
and_false true = refl
and_false false = refl

-- receivers, one after another
module _ (receivers : List ℕ) (round sender : ℕ) where
  abbrev pub to_first : ℕ → ℕ → ℕ → ℕ → Bool
  to_first k i r j = has_node (take k receivers) i && (round == r && sender == j)

  pub to_more : (k d : ℕ) (a b c : List Omission) → k < length receivers → Adds (to_first k) a b
      → AddsOmission b c (record {
        receiver = get_or receivers k d;
        round = round;
        sender = sender;
      }) → Adds (to_first (k + 1)) a c
  to_more k d a b c lt x y =
      adds_more (to_first k) (λ i r j. get_or receivers k d == i && (round == r && sender == j))
      (to_first (k + 1)) a b c x (record { added = y })
      (λ i r j. ap (λ m. m && (round == r && sender == j))
      (list_any_more (λ n. n == i) receivers k d lt)
      ∙ split_and (has_node (take k receivers) i) (get_or receivers k d == i)
      (round == r && sender == j))

  pub to_all : (k : ℕ) (a b : List Omission) → length receivers ≤ k → Adds (to_first k) a b
      → Adds (λ i r j. has_node receivers i && (round == r && sender == j)) a b
  to_all k a b le x =
      adds_same (to_first k) (λ i r j. has_node receivers i && (round == r && sender == j)) a b x
      (λ i r j. ap (λ rs. has_node rs i && (round == r && sender == j))
      (sym (take_all k receivers le)))

-- rounds, one after another
next_round : (f r k : ℕ) → f ≤ k → (leb f r && ltb r (k + 1)) ≡ (eqb k r || (leb f r && ltb r k))
next_round f r k le = grind (arith, nat_tests)

no_round : (f r : ℕ) → (leb f r && ltb r f) ≡ false
no_round f r = grind (arith, nat_tests)

last_round : (f l r k : ℕ) → f ≤ k → l + 1 ≤ k → k ≤ max f (l + 1)
    → (leb f r && leb r l) ≡ (leb f r && ltb r k)
last_round f l r k a b c = grind (arith, nat_tests)

module _ (receivers : List ℕ) (rs : RoundRange) (sender : ℕ) where
  abbrev pub in_rounds : ℕ → ℕ → ℕ → ℕ → Bool
  in_rounds k i r j = has_node receivers i && ((leb rs.first r && ltb r k) && sender == j)

  -- the rounds below k were added
  pub record AddsBelow (k : ℕ) (a b : List Omission) : Type 0 where
    pub adds : Adds (in_rounds k) a b
    pub within : k ≤ max rs.first (rs.last + 1)

  pub rounds_none : (a : List Omission) → AddsBelow rs.first a a
  rounds_none a = record {
    adds = adds_none (in_rounds rs.first) a (λ i r j. ap
        (λ m. has_node receivers i && (m && sender == j)) (no_round rs.first r)
        ∙ and_false (has_node receivers i));
    within = omega arith;
  }

  pub rounds_more : (k : ℕ) (a b c : List Omission) → rs.first ≤ k → k < rs.last + 1
      → AddsBelow k a b → Adds (λ i r j. has_node receivers i && (k == r && sender == j)) b c
      → AddsBelow (k + 1) a c
  rounds_more k a b c le lt x y = record {
    adds = adds_more (in_rounds k) (λ i r j. has_node receivers i && (k == r && sender == j))
        (in_rounds (k + 1)) a b c x.adds y (λ i r j.
        ap (λ m. has_node receivers i && (m && sender == j)) (next_round rs.first r k le)
        ∙ split_middle (has_node receivers i) (eqb k r) (leb rs.first r && ltb r k)
        (sender == j));
    within = omega (arith, lt);
  }

  pub rounds_all : (k : ℕ) (a b : List Omission) → rs.first ≤ k → rs.last + 1 ≤ k → AddsBelow k a b
      → Adds (λ i r j. has_node receivers i && (has_round rs r && sender == j)) a b
  rounds_all k a b le end x =
      adds_same (in_rounds k) (λ i r j. has_node receivers i && (has_round rs r && sender == j)) a b
      x.adds (λ i r j. ap (λ m. has_node receivers i && (m && sender == j))
      (last_round rs.first rs.last r k le end x.within))

-- senders, one after another
module _ (receivers : List ℕ) (rs : RoundRange) (senders : List ℕ) where
  abbrev pub from_first : ℕ → ℕ → ℕ → ℕ → Bool
  from_first k i r j = has_node receivers i && (has_round rs r && has_node (take k senders) j)

  pub adds_nobody : (a : List Omission) → Adds (from_first 0) a a
  adds_nobody a = adds_none (from_first 0) a (λ i r j. ap (λ m. has_node receivers i && m)
      (and_false (has_round rs r)) ∙ and_false (has_node receivers i))

  pub from_more : (k d : ℕ) (a b c : List Omission) → k < length senders → Adds (from_first k) a b
      → Adds (λ i r j. has_node receivers i && (has_round rs r && get_or senders k d == j)) b c
      → Adds (from_first (k + 1)) a c
  from_more k d a b c lt x y =
      adds_more (from_first k) (λ i r j. has_node receivers i &&
      (has_round rs r && get_or senders k d == j)) (from_first (k + 1)) a b c x y (λ i r j.
      ap (λ m. has_node receivers i && (has_round rs r && m))
      (list_any_more (λ n. n == j) senders k d lt)
      ∙ split_last (has_node receivers i) (has_round rs r) (has_node (take k senders) j)
      (get_or senders k d == j))

  pub from_all : (k : ℕ) (a b : List Omission) → length senders ≤ k → Adds (from_first k) a b
      → Adds (block receivers rs senders) a b
  from_all k a b le x =
      adds_same (from_first k) (block receivers rs senders) a b x
      (λ i r j. ap (λ js. has_node receivers i && (has_round rs r && has_node js j))
      (sym (take_all k senders le)))

-- the nodes below a number that pass a test
any_range : (a n i : ℕ) → list_any (λ k. eqb k i) (range_with_len a n) ≡ (leb a i && ltb i (a + n))
any_range a zero i = grind (arith, nat_tests)
any_range a (suc n) i = ap (λ b. eqb a i || b) (any_range (a + 1) n i) ∙ more a n i
  where
    more : (a n i : ℕ) → (eqb a i || (leb (a + 1) i && ltb i (a + 1 + n))) ≡
        (leb a i && ltb i (a + suc n))
    more a n i = grind (arith, nat_tests)

from_zero : (i n : ℕ) → (leb 0 i && ltb i (0 + n)) ≡ ltb i n
from_zero i n = grind (arith, nat_tests)

and_swap : (a b : Bool) → (a && b) ≡ (b && a)
and_swap true true = refl
and_swap true false = refl
and_swap false true = refl
and_swap false false = refl

pub node-filter : (p : ℕ → Bool) (n i : ℕ) → has_node (filter p (range_with_len 0 n)) i ≡
    (ltb i n && p i)
node-filter p n i =
    any-filter_same (λ k. eqb k i) p (p i) (λ k e. ap p (eqb-true k i e)) (range_with_len 0 n)
    ∙ ap (λ b. p i && b) (any_range 0 n i) ∙ and_swap (p i) (leb 0 i && ltb i (0 + n))
    ∙ ap (λ b. b && p i) (from_zero i n)

-- what holds of an answer where it is Ok
pub on_ok : {T E : Type 0} {P Q : Type 0} (r : Result T E) → (P → Q) → OnOk r P → OnOk r Q
on_ok (Ok x) f h = f h
on_ok (Err e) f h = h

-- a block of the same lists and rounds
pub block_is : (a b c d : List ℕ) (rs us : RoundRange) (t u : List Omission) → a ≡ c → rs ≡ us
    → b ≡ d → Adds (block a rs b) t u → Adds (block c us d) t u
block_is a b c d rs us t u e f g x =
    subst (λ z. Adds (block c us z) t u) g (subst (λ z. Adds (block c z b) t u) f
    (subst (λ z. Adds (block z rs b) t u) e x))
