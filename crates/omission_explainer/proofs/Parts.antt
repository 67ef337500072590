-- The three sets of a closed round part the nodes, and give the inbox.
use Rattle.std.proofs.Common.{◌≡◌, ℕ, zero, suc, ◌+◌, ◌^◌, ◌<◌, ◌≤◌, Bool, true, false, cond, List}
use Rattle.std.proofs.Common.{Option, None, Some, refl, sym, ap, ◌∙◌, ◌⊎◌, inl, inr, arith}
use Rattle.std.specs.Prelude.{◌&&◌, ◌||◌, not, nat_eq, nat_lt, is_some}
use Rattle.std.specs.List.{range_with_len, filter_map, cons_option}
use Rattle.std.proofs.lemmas.Bool.{and_parts, eqb-true, or_cases}
use Rattle.std.proofs.lemmas.Bool.Decides.{nat_tests}
use Rattle.std.proofs.lemmas.Nat.Bits.{bit_at-zero, same_from_bits_below}
use Rattle.std.proofs.Math.Pow.{pow_mono}
use Rattle.round_lang.specs.Sets.{is_in, set_of, inter, only, union}
use Rattle.round_lang.specs.declared.value.Value.{Value}
use Rattle.round_lang.proofs.SetLaws.{bit-is_in, is_in-set_of, is_in-wide, set_of-lt}
use Rattle.round_meaning.specs.Rounds.{Algorithm, inbox, received}
use Rattle.omission_explainer.specs.Verdict.{AreNodes}
use Rattle.omission_explainer.specs.Printed.{is_heard, is_silent, prints_omitted, heard_set}
use Rattle.omission_explainer.specs.Printed.{silent_set, omitted_set, PartsNodes}

-- the members of the empty set are nodes
pub nodes_none : (nodes members : ℕ) → members ≡ 0 → AreNodes nodes members
unfolding is_in
nodes_none nodes members e i h = let off : is_in members i ≡ false = ap (λ s. is_in s i) e
    ∙ ap (λ b. nat_eq b 1) (bit_at-zero i) in absurd cc

-- one node more
pub nodes_with : (nodes members more n : ℕ) → n < nodes → more ≡ union members (only 64 n)
    → AreNodes nodes members → AreNodes nodes more
nodes_with nodes members more n few e are i h =
    by (or_cases (is_in members i) (is_in (only 64 n) i)
    (and_parts _ _ (sym (is_in-set_of 64 (λ v. is_in members v || is_in (only 64 n) v) i)
    ∙ ap (λ s. is_in s i) (sym e) ∙ h)).1)
  where
    by : (is_in members i ≡ true) ⊎ (is_in (only 64 n) i ≡ true) → i < nodes
    by (inl old) = are i old
    by (inr new) = let same : i ≡ n =
        eqb-true i n (and_parts _ _ (sym (is_in-set_of 64 (λ v. nat_eq v n) i) ∙ new)).1 in
        omega arith

-- the empty set has no member
is_in-none : (i : ℕ) → is_in 0 i ≡ false
unfolding is_in
is_in-none i = ap (λ b. nat_eq b 1) (bit_at-zero i)

-- sets of nodes below 64 with the same members are one
same_sets : (a b : ℕ) → a < 2 ^ 64 → b < 2 ^ 64 → ((i : ℕ) → i < 64 → is_in a i ≡ is_in b i) → a ≡ b
same_sets a b ha hb same =
    same_from_bits_below 64 a b ha hb (λ i h. bit-is_in a i ∙ ap (λ c. cond c 1 0) (same i h)
    ∙ sym (bit-is_in b i))

-- a set of nodes below n is one of 64 places
pub small_set : (n : ℕ) (p : ℕ → Bool) → n ≤ 64 → set_of n p < 2 ^ 64
small_set n p h = let m : 2 ^ n ≤ 2 ^ 64 = pow_mono h in omega (arith, set_of-lt n p)

-- sets with no common member meet in the empty set
none_in_common : (a b : ℕ) → ((i : ℕ) → (is_in a i && is_in b i) ≡ false) → inter a b ≡ 0
none_in_common a b none =
    same_sets (inter a b) 0 (set_of-lt 64 _)
    (omega (arith, set_of-lt 64 (λ v. is_in a v && is_in b v)))
    (λ i h. is_in-wide _ i h ∙ none i ∙ sym (is_in-none i))

-- a node below n is heard, silent or neither
one_of_three : (below h s : Bool)
    → (((below && h) || (below && s)) || (below && (not h && not s))) ≡ (below && true)
one_of_three true true s = refl
one_of_three true false true = refl
one_of_three true false false = refl
one_of_three false h s = refl

-- no node is heard and silent
heard_or_silent : (below carried sends stands : Bool)
    → ((below && (carried && sends)) && (below && (stands && not sends))) ≡ false
heard_or_silent true true true true = refl
heard_or_silent true true true false = refl
heard_or_silent true true false stands = refl
heard_or_silent true false sends stands = refl
heard_or_silent false carried sends stands = refl

-- no node is heard and neither
first_or_neither : (below h s : Bool) → ((below && h) && (below && (not h && not s))) ≡ false
first_or_neither true true s = refl
first_or_neither true false s = refl
first_or_neither false h s = refl

-- no node is silent and neither
second_or_neither : (below h s : Bool) → ((below && s) && (below && (not h && not s))) ≡ false
second_or_neither true true true = refl
second_or_neither true false true = refl
second_or_neither true h false = refl
second_or_neither false h s = refl

-- what two sets have in common
both : (n i : ℕ) (p q : ℕ → Bool)
    → (is_in (set_of n p) i && is_in (set_of n q) i) ≡ ((nat_lt i n && p i) && (nat_lt i n && q i))
both n i p q =
    ap (λ x. x && is_in (set_of n q) i) (is_in-set_of n p i)
    ∙ ap (λ x. (nat_lt i n && p i) && x) (is_in-set_of n q i)

-- the three sets part the nodes
pub sets_part : (n : ℕ) (carried sends stands : ℕ → Bool) → n ≤ 64
    → PartsNodes n (heard_set n carried sends) (silent_set n sends stands)
    (omitted_set n carried sends stands)
sets_part n carried sends stands few =
    let heard = heard_set n carried sends in
    let silent = silent_set n sends stands in
    let omitted = omitted_set n carried sends stands in
    record {
      all =
          same_sets _ _ (set_of-lt 64 _) (small_set n (λ v. true) few)
          (λ i h. is_in-wide _ i h
          ∙ ap (λ b. b || is_in omitted i) (is_in-wide _ i h)
          ∙ ap (λ b. (b || is_in silent i) || is_in omitted i)
          (is_in-set_of n (is_heard carried sends) i)
          ∙ ap (λ b. ((nat_lt i n && is_heard carried sends i) || b) || is_in omitted i)
          (is_in-set_of n (is_silent sends stands) i)
          ∙ ap (λ b. ((nat_lt i n && is_heard carried sends i)
          || (nat_lt i n && is_silent sends stands i)) || b)
          (is_in-set_of n (prints_omitted carried sends stands) i)
          ∙ one_of_three (nat_lt i n) (is_heard carried sends i) (is_silent sends stands i)
          ∙ sym (is_in-set_of n (λ v. true) i));
      first_two_apart =
          none_in_common heard silent
          (λ i. both n i (is_heard carried sends) (is_silent sends stands)
          ∙ heard_or_silent (nat_lt i n) (carried i) (sends i) (stands i));
      outer_two_apart =
          none_in_common heard omitted
          (λ i. both n i (is_heard carried sends) (prints_omitted carried sends stands)
          ∙ first_or_neither (nat_lt i n) (is_heard carried sends i)
          (is_silent sends stands i));
      last_two_apart =
          none_in_common silent omitted
          (λ i. both n i (is_silent sends stands) (prints_omitted carried sends stands)
          ∙ second_or_neither (nat_lt i n) (is_heard carried sends i)
          (is_silent sends stands i));
    }

-- functions that agree below n give one list
pub filter_map_same : {Y : Type 0} (f g : ℕ → Option Y) (a n : ℕ)
    → ((j : ℕ) → j < a + n → f j ≡ g j)
    → filter_map f (range_with_len a n) ≡ filter_map g (range_with_len a n)
filter_map_same f g a zero same = refl
filter_map_same f g a (suc n) same =
    ap (λ o. cons_option o (filter_map f (range_with_len (a + 1) n))) (same a (omega arith))
    ∙ ap (cons_option (g a)) (filter_map_same f g (a + 1) n (λ j h. same j (omega arith)))

-- what a sender gives to the inbox
one_sender : (j : ℕ) (carried stands : Bool) (m : Option (List Value))
    → cond (not (carried && is_some m) && not (stands && not (is_some m))) None (received j m)
    ≡ cond (not carried) None (received j m)
one_sender j carried stands None = nothing (not (carried && false) && not (stands && not false))
    ∙ sym (nothing (not carried))
  where
    nothing : (b : Bool) → cond b None (received j None) ≡ None
    nothing true = refl
    nothing false = refl
one_sender j true stands (Some m) = refl
one_sender j false true (Some m) = refl
one_sender j false false (Some m) = refl

-- the printed omissions give the inbox of what was not carried
pub same_inbox : (a : Algorithm) (carried stands : ℕ → Bool) (states : ℕ → List Value) (r i : ℕ)
    → a.nodes ≤ 64
    → inbox a (is_in (omitted_set a.nodes carried (λ j. is_some (a.send r (states j) j i)) stands))
    states r i ≡ inbox a (λ j. not (carried j)) states r i
unfolding inbox
same_inbox a carried stands states r i few =
    filter_map_same _ _ 0 a.nodes (λ j h.
    let sends = λ (k : ℕ). is_some (a.send r (states k) k i) in
    let below : nat_lt j a.nodes ≡ true = grind (arith, nat_tests) in
    ap (λ b. cond b None (received j (a.send r (states j) j i)))
    (is_in-set_of a.nodes (prints_omitted carried sends stands) j
    ∙ ap (λ b. b && prints_omitted carried sends stands j) below)
    ∙ one_sender j (carried j) (stands j) (a.send r (states j) j i))
