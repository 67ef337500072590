-- What is left of a range, of a set's members and of a row's entries, from a number on.
use Rattle.std.proofs.Common.{◌≡◌, ℕ, ◌+◌, ◌-◌, ◌<◌, suc, Bool, true, false, cond, List, [], ◌∷◌}
use Rattle.std.proofs.Common.{ap, refl, ◌∙◌, arith}
use Rattle.std.specs.Prelude.{◌&&◌, nat_lt}
use Rattle.std.specs.List.{filter, range_with_len}
use Rattle.std.proofs.lemmas.Bool.Decides.{nat_tests}
use Rattle.round_lang.specs.Sets.{is_in, members}

-- the numbers from i on that are below n
abbrev pub range_from : ℕ → ℕ → List ℕ
range_from i n = range_with_len i (n - i)

pub range_left : (i n : ℕ) → i < n → range_from i n ≡ i ∷ range_from (i + 1) n
range_left i n h =
    let e : n - i ≡ suc (n - (i + 1)) = omega (arith, h) in
    ap (range_with_len i) e

pub range_none : (n : ℕ) → range_from n n ≡ []
range_none n =
    let e : n - n ≡ 0 = omega arith in
    ap (range_with_len n) e

-- of these, the numbers that pass a test
abbrev pub passing : (ℕ → Bool) → ℕ → ℕ → List ℕ
passing p i n = filter p (range_from i n)

pub passing_first : (p : ℕ → Bool) (i n : ℕ) → i < n → p i ≡ true
    → passing p i n ≡ i ∷ passing p (i + 1) n
passing_first p i n h passes =
    ap (filter p) (range_left i n h)
    ∙ ap (λ b. cond b (i ∷ passing p (i + 1) n) (passing p (i + 1) n)) passes

pub passing_later : (p : ℕ → Bool) (i n : ℕ) → i < n → p i ≡ false
    → passing p i n ≡ passing p (i + 1) n
passing_later p i n h fails =
    ap (filter p) (range_left i n h)
    ∙ ap (λ b. cond b (i ∷ passing p (i + 1) n) (passing p (i + 1) n)) fails

pub passing_none : (p : ℕ → Bool) (n : ℕ) → passing p n n ≡ []
passing_none p n = ap (filter p) (range_none n)

-- the members of a set from i on
unfoldable pub members_from : ℕ → ℕ → List ℕ
members_from s i = passing (is_in s) i 64

pub members_all : (s : ℕ) → members_from s 0 ≡ members s
unfolding members members_from
members_all s = refl

pub members_first : (s i : ℕ) → i < 64 → is_in s i ≡ true
    → members_from s i ≡ i ∷ members_from s (i + 1)
unfolding members_from
members_first s i h is = passing_first (is_in s) i 64 h is

pub members_later : (s i : ℕ) → i < 64 → is_in s i ≡ false
    → members_from s i ≡ members_from s (i + 1)
unfolding members_from
members_later s i h is = passing_later (is_in s) i 64 h is

pub members_none : (s : ℕ) → members_from s 64 ≡ []
unfolding members_from
members_none s = passing_none (is_in s) 64

-- what the test of a member says
pub member_test : (s i : ℕ) (b : Bool) → i < 64 → b ≡ (nat_lt i 64 && is_in s i) → is_in s i ≡ b
member_test s i b h e = grind (arith, nat_tests)
