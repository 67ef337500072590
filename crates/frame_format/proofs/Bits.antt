-- Numbers of so many bits have no bit above them.
use Rattle.std.proofs.Common.{◌≡◌, ℕ, ◌/◌, ◌^◌, ◌<◌, ◌≤◌, eqb, ltb, arith, inl, inr}
use Rattle.std.specs.Prelude.{not}
use Rattle.std.proofs.lemmas.Nat.{pow_pos, div_below, le-div}
use Rattle.std.proofs.lemmas.Bool.{cases_lt}
use Rattle.std.proofs.lemmas.Bool.Decides.{nat_tests}

-- no bit from k up is there
pub no_bit_above : (n k : ℕ) → not (eqb (n / 2 ^ k) 0) ≡ not (ltb n (2 ^ k))
no_bit_above n k =
    elim (cases_lt n (2 ^ k)) [
      | inl h ↦ (let low : n / 2 ^ k < 1 =
          div_below n (2 ^ k) 1 (pow_pos k) (omega arith) in
          grind (arith, nat_tests))
      | inr h ↦ (let high : 1 ≤ n / 2 ^ k =
          le-div 1 n (2 ^ k) (pow_pos k) (omega arith) in grind (arith, nat_tests))
    ]
