-- What sets are by their members.
use Rattle.std.proofs.Common.{◌≡◌, ℕ, zero, suc, ◌+◌, ◌<◌, ◌≤◌, Bool, true, false, cond, ◌∷◌, refl}
use Rattle.std.proofs.Common.{sym, ap, ◌∙◌, arith, ◌⊎◌, inl, inr}
use Rattle.std.specs.Prelude.{◌&&◌}
use Rattle.std.specs.List.{filter, range_with_len}
use Rattle.std.proofs.lemmas.Bool.{cases_lt, false≢true}
use Rattle.std.proofs.lemmas.List.Sums.{length-filter}
use Rattle.round_lang.specs.Sets.{first_or, is_in, members, set_of}
use Rattle.round_lang.proofs.SetLaws.{bit-set_of, is-set_of, is_in-set_of, is_in-wide, same-set_of}
use Rattle.round_lang.proofs.SetLaws.{set_of-lt, set_of-none}
use Rattle.round_meaning.specs.SetMembers.{SetsAreMembers}

and_false : (b : Bool) → (b && false) ≡ false
and_false true = refl
and_false false = refl

none_in : (v : ℕ) → is_in 0 v ≡ false
none_in v = ap (λ s. is_in s v) (set_of-none (λ x. false)) ∙ is_in-set_of 0 (λ x. false) v
    ∙ and_false _

and_true : (b : Bool) → (b && true) ≡ b
and_true true = refl
and_true false = refl

-- tests that agree below n make the same set
same_below : (n : ℕ) (p q : ℕ → Bool) → ((v : ℕ) → v < n → p v ≡ q v) → set_of n p ≡ set_of n q
same_below n p q same = is-set_of n (set_of n p) q (set_of-lt n p) (λ i h. bit-set_of n p i h
    ∙ ap (λ b. cond b 1 0) (same i h))

-- the first of a range that passes a test passes it, and is the least
first_passes : (p : ℕ → Bool) (k a n v : ℕ) → a ≤ v → v < a + n → p v ≡ true
    → (p (first_or k (filter p (range_with_len a n))) ≡ true)
    × (first_or k (filter p (range_with_len a n)) ≤ v)
first_passes p k a zero v low high h = absurd (omega arith)
first_passes p k a (suc n) v low high h =
    go (λ l. first_passes p k (a + 1) n v (omega arith) (omega arith) h) (p a) refl (cases_lt a v)
  where
    go : (a < v → (p (first_or k (filter p (range_with_len (a + 1) n))) ≡ true)
        × (first_or k (filter p (range_with_len (a + 1) n)) ≤ v))
        → (b : Bool) → p a ≡ b → (a < v) ⊎ (v ≤ a)
        → (p (first_or k (cond b (a ∷ filter p (range_with_len (a + 1) n))
        (filter p (range_with_len (a + 1) n)))) ≡ true)
        × (first_or k (cond b (a ∷ filter p (range_with_len (a + 1) n))
        (filter p (range_with_len (a + 1) n))) ≤ v)
    go ih true e c = (e, low)
    go ih false e (inl l) = ih l
    go ih false e (inr l) = let same : v ≡ a = omega arith in
        absurd (false≢true (sym e ∙ ap p (sym same) ∙ h))

-- none of a range passes it
none_passes : (p : ℕ → Bool) (k a n : ℕ) → ((v : ℕ) → a ≤ v → v < a + n → p v ≡ false)
    → first_or k (filter p (range_with_len a n)) ≡ k
none_passes p k a zero none = refl
none_passes p k a (suc n) none =
    go (none_passes p k (a + 1) n (λ v l m. none v (omega arith) (omega arith))) (p a)
    (none a (omega arith) (omega arith))
  where
    go : first_or k (filter p (range_with_len (a + 1) n)) ≡ k → (b : Bool) → b ≡ false
        → first_or k (cond b (a ∷ filter p (range_with_len (a + 1) n))
        (filter p (range_with_len (a + 1) n))) ≡ k
    go ih true e = cc
    go ih false e = ih

pub sets_are_members : SetsAreMembers
unfolding members
sets_are_members = record {
  comprehension = is_in-set_of;
  empty = none_in;
  all = λ k v. is_in-set_of k (λ x. true) v ∙ and_true _;
  single = λ k e v. is_in-set_of k _ v;
  either = λ a b v h. is_in-wide _ v h;
  both = λ a b v h. is_in-wide _ v h;
  without = λ a b v h. is_in-wide _ v h;
  same = λ a b l m same. same-set_of a l ∙ same_below 64 (is_in a) (is_in b) same
      ∙ sym (same-set_of b m);
  counted = λ s. length-filter (is_in s) (range_with_len 0 64);
  least_member = λ k s v l h. first_passes (is_in s) k 0 64 v (omega arith) (omega arith) h;
  least_of_none = λ k s none. none_passes (is_in s) k 0 64 (λ v l m. none v (omega arith));
}
