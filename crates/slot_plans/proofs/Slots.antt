-- A step has one slot.
use Rattle.std.proofs.Common.{◌≡◌, ℕ, ◌+◌, Bool, true, false, IsTrue, ◌↔◌, refl, ap, sym, subst}
use Rattle.std.proofs.Common.{arith}
use Rattle.slot_plans.specs.declared.slot.Slot.{Slot}
use Rattle.slot_plans.specs.declared.slot.Slot.TheVariants.{Send, Receive}
use Rattle.slot_plans.specs.Slot.{IsSlotOf, IsSendSlot, IsReceiveSlot, StepsHaveOneSlot}
use Rattle.slot_plans.proofs.Rounds.{StartsApart, IsInRound, round-unique, starts_apart}

-- one fact has one test
same-test : (a b : Bool) (P : Type 0) → (IsTrue a ↔ P) → (IsTrue b ↔ P) → a ≡ b
same-test true true P f g = refl
same-test false false P f g = refl
same-test true false P f g = let e : IsTrue false = g.1 (f.0 refl) in cc
same-test false true P f g = let e : IsTrue false = f.1 (g.0 refl) in cc

-- a send slot lies in its round
send-in_round : {nodes : ℕ} {start : ℕ → ℕ} {step round to : ℕ} → StartsApart nodes start
    → IsSendSlot nodes start step round to → IsInRound start step round
send-in_round {start} {round} apart slot = record {
  first = slot.of_round.0;
  starts = omega arith;
  ends = omega (arith, apart round slot.of_round.0);
}

-- a receive slot lies in its round
receive-in_round : {nodes : ℕ} {start : ℕ → ℕ} {step round : ℕ} {last : Bool}
    → IsReceiveSlot nodes start step round last → IsInRound start step round
receive-in_round slot = record {
  first = slot.of_round.0;
  starts = omega arith;
  ends = slot.before_end;
}

-- slots of one step are the same
slot-unique : (nodes : ℕ) (start : ℕ → ℕ) → StartsApart nodes start → (step : ℕ) (a b : Slot)
    → IsSlotOf nodes start step a → IsSlotOf nodes start step b → a ≡ b
slot-unique nodes start apart step (Send r i) (Send s j) f g =
    let same : r ≡ s = round-unique nodes start apart step r s (send-in_round apart f)
    (send-in_round apart g) in
    let to : i ≡ j = omega (arith, ap start same) in
    cc
slot-unique nodes start apart step (Send r i) (Receive s last) f g =
    let same : r ≡ s = round-unique nodes start apart step r s (send-in_round apart f)
    (receive-in_round g) in
    absurd (omega (arith, ap start same))
slot-unique nodes start apart step (Receive r last) (Send s j) f g =
    let same : r ≡ s = round-unique nodes start apart step r s (receive-in_round f)
    (send-in_round apart g) in
    absurd (omega (arith, ap start same))
slot-unique nodes start apart step (Receive r last) (Receive s end) f g =
    let same : r ≡ s = round-unique nodes start apart step r s (receive-in_round f)
    (receive-in_round g) in
    let P : ℕ → Type 0 = λ t. IsTrue end ↔ (step + 1 ≡ start (t + 1)) in
    let tests : last ≡ end = same-test last end (step + 1 ≡ start (r + 1)) f.ends
    (subst P (sym same) g.ends) in
    cc

-- a step has one slot only
pub one_slot : StepsHaveOneSlot
one_slot nodes receives start laws = slot-unique nodes start (starts_apart laws)
