-- What a node's step is for, by its number.
use Rattle.std.specs.Prelude.{◌≡◌, ℕ, ◌+◌, ◌<◌, ◌≤◌, ◌↔◌, Bool, IsTrue}
use Rattle.slot_plans.specs.declared.slot.Slot.{Slot}
use Rattle.slot_plans.specs.declared.slot.Slot.TheVariants.{Send, Receive}
use Rattle.slot_plans.specs.Plan.{IsRound, PlanLaws}

-- the step is the round's send slot for that node
pub record IsSendSlot (nodes : ℕ) (start : ℕ → ℕ) (step round to : ℕ) : Type 0 where
  pub of_round : IsRound round
  pub to_node : to < nodes
  pub place : step ≡ start round + to

-- the step is one of the round's receive steps, and told to be the last exactly if it is
pub record IsReceiveSlot (nodes : ℕ) (start : ℕ → ℕ) (step round : ℕ) (last : Bool) : Type 0 where
  pub of_round : IsRound round
  pub after_sends : start round + nodes ≤ step
  pub before_end : step < start (round + 1)
  pub ends : IsTrue last ↔ (step + 1 ≡ start (round + 1))

-- what a step is for, where the rounds of so many nodes start at these steps
abbrev pub IsSlotOf : ℕ → (ℕ → ℕ) → ℕ → Slot → Type 0
IsSlotOf nodes start step (Send round to) = IsSendSlot nodes start step round to
IsSlotOf nodes start step (Receive round last) = IsReceiveSlot nodes start step round last

-- under each plan, a step has one slot only
abbrev pub StepsHaveOneSlot : Type 0
StepsHaveOneSlot =
    (nodes : ℕ) (receives start : ℕ → ℕ) → PlanLaws nodes receives start
    → (step : ℕ) (one other : Slot)
    → IsSlotOf nodes start step one → IsSlotOf nodes start step other → one ≡ other
