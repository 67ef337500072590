-- Steps and rounds of a plan.
use Rattle.std.proofs.Common.{◌≡◌, ℕ, zero, suc, ◌+◌, ◌-◌, ◌<◌, ◌≤◌, true, false, ltb, leb, refl}
use Rattle.std.proofs.Common.{ap, arith, ◌⊎◌, inl, inr}
use Rattle.std.proofs.lemmas.Bool.{cases_lt, cases_eq, le-leb, lt-leb, lt-ltb, le-ltb, and_left}
use Rattle.std.proofs.lemmas.Bool.{and_right, and_from, or_right}
use Rattle.std.proofs.lemmas.Bool.Decides.{nat_tests}
use Rattle.step_book.specs.World.{World, nodes_of, IsPlan, earliest, lies_near, receives_in}
use Rattle.step_book.specs.World.{receives_by, is_receive}

pub start_rises : (w : World) → IsPlan w → (a d : ℕ) → 0 < a → w.start a ≤ w.start (a + d)
start_rises w p a zero h = let e : a + 0 ≡ a = omega arith in omega (arith, ap w.start e)
start_rises w p a (suc d) h =
    let e : a + suc d ≡ (a + d) + 1 = omega arith in
    let step = p.next (a + d) (omega arith) in
    omega (arith, ap w.start e, step, start_rises w p a d h)

pub start_le : (w : World) → IsPlan w → (a b : ℕ) → 0 < a → a ≤ b → w.start a ≤ w.start b
start_le w p a b h l =
    let e : a + (b - a) ≡ b = omega arith in
    omega (arith, ap w.start e, start_rises w p a (b - a) h)

pub receives_by_before : (w : World) → IsPlan w → (n q x : ℕ) → n < q → w.start q ≤ x
    → receives_by w n x ≡ false
receives_by_before w p zero q x l h = refl
receives_by_before w p (suc n) q x l h =
    let up : w.start (suc n + 1) ≤ w.start q =
    start_le w p (suc n + 1) q (omega arith) (omega arith) in
    let off : ltb x (w.start (suc n + 1)) ≡ false = le-ltb x (w.start (suc n + 1)) (omega arith) in
    rw (receives_by_before w p n q x (omega arith) h)
    (and_right (leb (w.start (suc n) + nodes_of w) x) (ltb x (w.start (suc n + 1))) off)

-- no step past the last round is a receive
pub receive_early : (w : World) → IsPlan w → (x : ℕ) → is_receive w x ≡ true
    → x < w.start (w.rounds + 1)
receive_early w p x h = by (cases_lt x (w.start (w.rounds + 1)))
  where
    by : (x < w.start (w.rounds + 1)) ⊎ (w.start (w.rounds + 1) ≤ x) → x < w.start (w.rounds + 1)
    by (inl early) = early
    by (inr past) =
        let off : is_receive w x ≡ false =
        receives_by_before w p w.rounds (w.rounds + 1) x (omega arith) past in
        cc

-- the newest round is q, or one after it
receives_by_more : (w : World) → IsPlan w → (n q x : ℕ) → 0 < q → q ≤ suc n → w.start q ≤ x
    → x < w.start (q + 1) → (n < q) ⊎ (q ≤ n)
    → (q ≤ n → receives_by w n x ≡ leb (w.start q + nodes_of w) x)
    → receives_by w (suc n) x ≡ leb (w.start q + nodes_of w) x
receives_by_more w p n q x z l h k (inl new) ih =
    let e : suc n ≡ q = omega arith in
    let here : receives_in w q x ≡ leb (w.start q + nodes_of w) x =
    rw (lt-ltb x (w.start (q + 1)) k) (grind (arith, nat_tests)) in
    rw (receives_by_before w p n q x new h, e) here
receives_by_more w p n q x z l h k (inr old) ih =
    let up : w.start (q + 1) ≤ w.start (suc n) =
    start_le w p (q + 1) (suc n) (omega arith) (omega arith) in
    let off : leb (w.start (suc n) + nodes_of w) x ≡ false =
    lt-leb (w.start (suc n) + nodes_of w) x (omega arith) in
    rw (ih old, off) (grind (arith, nat_tests))

pub receives_by_at : (w : World) → IsPlan w → (n q x : ℕ) → 0 < q → q ≤ n → w.start q ≤ x
    → x < w.start (q + 1) → receives_by w n x ≡ leb (w.start q + nodes_of w) x
receives_by_at w p zero q x z l h k = absurd (omega arith)
receives_by_at w p (suc n) q x z l h k =
    receives_by_more w p n q x z l h k (cases_lt n q)
    (λ older. receives_by_at w p n q x z older h k)

-- a step of round q is a receive after the sends
pub is_receive_at : (w : World) → IsPlan w → (q x : ℕ) → 0 < q → q ≤ w.rounds → w.start q ≤ x
    → x < w.start (q + 1) → is_receive w x ≡ leb (w.start q + nodes_of w) x
is_receive_at w p q x z l h k = receives_by_at w p w.rounds q x z l h k

-- a receive of a round is a receive
pub receives_by_in : (w : World) → (n q x : ℕ) → 0 < q → q ≤ n → (n < suc q) ⊎ (suc q ≤ n)
    → receives_in w q x ≡ true → receives_by w n x ≡ true
receives_by_in w zero q x z l c h = absurd (omega arith)
receives_by_in w (suc n) q x z l (inl new) h =
    let e : suc n ≡ q = omega arith in
    rw (e, h) (or_right (receives_by w n x) true refl)
receives_by_in w (suc n) q x z l (inr old) h =
    rw (receives_by_in w n q x z (omega arith) (cases_lt n (suc q)) h) refl

-- the last step of a round is a receive
pub last_is_receive : (w : World) → IsPlan w → (r x : ℕ) → 0 < r → r ≤ w.rounds
    → x + 1 ≡ w.start (r + 1) → is_receive w x ≡ true
last_is_receive w p r x z l e =
    let next = p.next r z in
    let low : leb (w.start r + nodes_of w) x ≡ true =
    le-leb (w.start r + nodes_of w) x (omega arith) in
    let high : ltb x (w.start (r + 1)) ≡ true = lt-ltb x (w.start (r + 1)) (omega arith) in
    receives_by_in w w.rounds r x z l (cases_lt w.rounds (suc r)) (rw (low, high) refl)

pub lies_before : (w : World) (r x : ℕ) → x < w.start (earliest r) → lies_near w r x ≡ false
lies_before w r x h = and_left _ _ (lt-leb (w.start (earliest r)) x h)

pub lies_after : (w : World) (r x : ℕ) → w.start (r + 1) ≤ x → lies_near w r x ≡ false
lies_after w r x h = and_right _ _ (le-ltb x (w.start (r + 1)) h)

pub lies_within : (w : World) (r x : ℕ) → w.start (earliest r) ≤ x → x < w.start (r + 1)
    → lies_near w r x ≡ true
lies_within w r x h k = and_from _ _ (le-leb (w.start (earliest r)) x h)
    (lt-ltb x (w.start (r + 1)) k)

-- a message is kept from its earliest round on
pub starts_early : (w : World) → IsPlan w → (r q : ℕ) → 0 < q → earliest r ≤ q
    → w.start (earliest r) ≤ w.start q
starts_early w p r q z l = start_le w p (earliest r) q (omega arith) l

-- a round that doesn't start at 0 isn't the first
late_round_at : (w : World) → IsPlan w → (r : ℕ) → 0 < w.start r → (r ≡ 1) ⊎ (r ≡ 1 → ⊥) → 0 < r
    → 1 < r
late_round_at w p r h (inl one) z = absurd (omega (arith, ap w.start one, p.first))
late_round_at w p r h (inr more) z = omega arith

pub late_round : (w : World) → IsPlan w → (r : ℕ) → 0 < w.start r → 0 < r → 1 < r
late_round w p r h z = late_round_at w p r h (cases_eq r 1) z
