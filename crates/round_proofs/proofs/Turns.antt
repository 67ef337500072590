-- Where nodes take turns, one of t + 1 turns in a row is that of a node that doesn't fail.
use Rattle.std.proofs.Common.{◌≡◌, ℕ, zero, suc, ◌+◌, ◌-◌, ◌%◌, ◌<◌, ◌≤◌, Bool, true, false}
use Rattle.std.proofs.Common.{ap, ◌∙◌, sym, arith}
use Rattle.std.proofs.Math.Nat.{mod-eq_of_lt, add-mod_right}
use Rattle.round_meaning.proofs.Hearing.{count, count_more, some_counted}
use Rattle.round_proofs.proofs.Counting.{one_if}

-- a count in two parts
pub count_append : (c : ℕ → Bool) (lo a b : ℕ)
    → count c lo (a + b) ≡ count c lo a + count c (lo + a) b
count_append c lo zero b =
    let e : 0 + b ≡ b = omega arith in
    let f : lo ≡ lo + 0 = omega arith in
    let g = ap (count c lo) e in
    let h = ap (λ m. count c m b) f in
    omega arith
count_append c lo (suc a) b =
    let e : suc a + b ≡ suc (a + b) = omega arith in
    let f : lo + 1 + a ≡ lo + suc a = omega arith in
    let g = ap (λ m. count c m b) f in
    let h = ap (count c lo) e in
    let ih = count_append c (lo + 1) a b in
    omega arith

count_few : (c : ℕ → Bool) (lo n : ℕ) → count c lo n ≤ n
count_few c lo zero = omega arith
count_few c lo (suc n) =
    let rest = count_few c (lo + 1) n in
    let here = go (c lo) in
    omega arith
  where
    go : (b : Bool) → one_if b ≤ 1
    go true = omega arith
    go false = omega arith

-- n turns from anywhere on are those of all n nodes
pub all_turns : (living : ℕ → Bool) (n lo : ℕ)
    → count (λ g. living (g % n)) lo n ≡ count living 0 n
all_turns living n zero =
    let a = count_more (λ g. living (g % n)) living 0 n
    (λ j l h t. ap living (sym (mod-eq_of_lt (low j h))) ∙ t) in
    let b = count_more living (λ g. living (g % n)) 0 n
    (λ j l h t. ap living (mod-eq_of_lt (low j h)) ∙ t) in
    omega arith
  where
    low : (j : ℕ) → j < 0 + n → j < n
    low j h = omega arith
all_turns living n (suc lo) =
    let ih = all_turns living n lo in
    let head = count_append turn lo 1 n in
    let last = count_append turn lo n 1 in
    let same : 1 + n ≡ n + 1 = omega arith in
    let e = ap (count turn lo) same in
    let f : lo + 1 ≡ suc lo = omega arith in
    let g = ap (λ m. count turn m n) f in
    let around = ap (λ m. one_if (living m)) (add-mod_right lo n) in
    omega arith
  where
    turn : ℕ → Bool
    turn = λ g. living (g % n)

-- one of t + 1 turns in a row is that of a node that lives
pub living_turn : (living : ℕ → Bool) (n t lo : ℕ) → t < n → n ≤ count living 0 n + t
    → (g : ℕ) × (lo ≤ g) × (g ≤ lo + t) × (living (g % n) ≡ true)
living_turn living n t lo few many =
    let all = all_turns living n lo in
    let e : suc t + (n - suc t) ≡ n = omega arith in
    let cut = ap (count turn lo) (sym e) ∙ count_append turn lo (suc t) (n - suc t) in
    let rest = count_few turn (lo + suc t) (n - suc t) in
    let it = some_counted turn lo (suc t) (omega arith) in
    (it.0, it.1, omega (arith, it.2), it.3)
  where
    turn : ℕ → Bool
    turn = λ g. living (g % n)
