-- The least member of a set, as the decision names it.
use Rattle.std.proofs.Common.{◌≡◌, ℕ, zero, suc, ◌+◌, ◌<◌, ◌≤◌, Bool, true, false, cond, List, []}
use Rattle.std.proofs.Common.{◌∷◌, Some, None, refl, ap, arith}
use Rattle.std.specs.List.{range_with_len, filter}
use Rattle.round_lang.specs.Sets.{is_in, members, first_or, least}
use Rattle.round_lang.proofs.SetLaws.{is-least_none}
use Rattle.round_meaning.specs.Turn.{first_member}

-- a first member below k is the first member
pub first_member-some : (vs : List ℕ) (k m : ℕ) → m ≡ first_or k vs → m < k
    → Some m ≡ first_member vs
first_member-some [] k m e h = absurd (omega arith)
first_member-some (v ∷ vs) k m e h = ap Some e

none_step : (b : Bool) (vs : List ℕ) (k a m : ℕ) → a < k
    → (m ≡ first_or k vs → None ≡ first_member vs) → m ≡ first_or k (cond b (a ∷ vs) vs) → k ≤ m
    → None ≡ first_member (cond b (a ∷ vs) vs)
none_step true vs k a m below ih e h = absurd (omega arith)
none_step false vs k a m below ih e h = ih e

none_passes : (p : ℕ → Bool) (k a n m : ℕ) → a + n ≤ k
    → m ≡ first_or k (filter p (range_with_len a n)) → k ≤ m
    → None ≡ first_member (filter p (range_with_len a n))
none_passes p k a zero m below e h = refl
none_passes p k a (suc n) m below e h =
    none_step (p a) (filter p (range_with_len (a + 1) n)) k a m (omega arith)
    (λ q. none_passes p k (a + 1) n m (omega arith) q h) e h

-- a set whose least member is past all places has none
pub first_member-none : (s m : ℕ) → m ≡ least 64 s → 64 ≤ m → None ≡ first_member (members s)
unfolding members
first_member-none s m e h = none_passes (is_in s) 64 0 64 m (omega arith) e h

-- the empty set has no member
pub first_member-empty : None ≡ first_member (members 0)
first_member-empty = first_member-none 0 64 (is-least_none 64) (omega arith)
