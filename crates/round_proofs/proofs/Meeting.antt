-- Where each node hears a majority, any two hear a common one.
use Rattle.std.proofs.Common.{◌≡◌, ℕ, Bool, true, false, refl, arith}
use Rattle.std.specs.Prelude.{not}
use Rattle.std.proofs.lemmas.Bool.{false≢true}
use Rattle.round_meaning.specs.declared.setup.Setup.{Setup}
use Rattle.round_meaning.proofs.Hearing.{count-is}
use Rattle.round_proofs.specs.Predicates.{HearsMajority, NoSplit}
use Rattle.round_proofs.proofs.Counting.{majorities_meet}

heard_by : (b : Bool) → not b ≡ true → b ≡ false
heard_by true e = absurd (false≢true e)
heard_by false e = refl

-- where each node hears a majority, any two hear a common one
pub majority_meets : (s : Setup) (omits : ℕ → ℕ → ℕ → Bool) → HearsMajority s omits
    → NoSplit s omits
majority_meets s omits h r i k hi hk =
    let a = h r i hi in
    let b = h r k hk in
    let e = count-is (λ j. not (omits i r j)) 0 s.nodes in
    let f = count-is (λ j. not (omits k r j)) 0 s.nodes in
    let m = majorities_meet (λ j. not (omits i r j)) (λ j. not (omits k r j)) s.nodes
    (omega arith) (omega arith) in
    (m.0, m.1, heard_by (omits i r m.0) m.2, heard_by (omits k r m.0) m.3)
