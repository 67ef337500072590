-- The receives of a plan, as a step's number tells them.
use Rattle.std.proofs.Common.{◌≡◌, ℕ, ◌+◌, ◌^◌, ◌<◌, ◌≤◌, ◌↔◌, Bool, true, false, ◌∙◌, arith}
use Rattle.std.proofs.Common.{◌⊎◌, inl, inr}
use Rattle.std.proofs.lemmas.Bool.{cases_lt, le-leb, lt-leb}
use Rattle.slot_plans.specs.Plan.{PlanLaws}
use Rattle.slot_plans.specs.Slot.{IsSendSlot, IsReceiveSlot}
use Rattle.step_book.specs.Log.{Log, world_of}
use Rattle.step_book.specs.World.{World, IsPlan, is_receive, nodes_of}
use Rattle.step_book.proofs.Plans.{is_receive_at, start_le}
use Rattle.step_book.proofs.Reading.{nodes_are}
use Rattle.step_book.proofs.Slots.{round_within}
use Rattle.step_book.proofs.Starts.{plan_is}
use Rattle.step_book.proofs.WaitsKept.{idle_is_no_receive}
use Rattle.omission_explainer.specs.Lateness.{HasReceive}

module _ (w : World) (plan : IsPlan w) where
  -- after the last round there is no receive
  pub no_receive_past : (low high : ℕ) → w.start (w.rounds + 1) ≤ low → HasReceive w low high → ⊥
  no_receive_past low high past h =
      let l = h.after in
      let off = idle_is_no_receive w plan h.step (omega arith) in
      let on = h.receive in
      cc

  -- of the steps from a slot on, the first receive of the round is the first receive
  pub first_after_slot : (r x low high : ℕ) → 1 ≤ r → r ≤ w.rounds → x ≡ w.start r + nodes_of w
      → w.start r ≤ low → low ≤ x → (x < high) ↔ HasReceive w low high
  first_after_slot r x low high z l e from upto = (
    λ h. record { step = x; after = upto; before = h; receive = on },
    λ h. from_it h (cases_lt h.step x),
  )
    where
      on : is_receive w x ≡ true
      on = let long = plan.next r (omega arith) in
          is_receive_at w plan r x (omega arith) l (omega arith) (omega arith)
          ∙ le-leb _ _ (omega arith)

      from_it : (h : HasReceive w low high) → (h.step < x) ⊎ (x ≤ h.step) → x < high
      from_it h (inl early) =
          let low_is = h.after in
          let long = plan.next r (omega arith) in
          let off : is_receive w h.step ≡ false =
          is_receive_at w plan r h.step (omega arith) l (omega arith) (omega arith)
          ∙ lt-leb _ _ (omega arith) in
          let is = h.receive in
          absurd cc
      from_it h (inr late) = let b = h.before in omega arith

  -- a receive is the first receive of the steps from it on
  pub first_here : (r low high : ℕ) → 1 ≤ r → r ≤ w.rounds → w.start r + nodes_of w ≤ low
      → low < w.start (r + 1) → (low < high) ↔ HasReceive w low high
  first_here r low high z l from upto = (
    λ h. record {
      step = low;
      after = omega arith;
      before = h;
      receive = is_receive_at w plan r low (omega arith) l (omega arith) upto ∙ le-leb _ _ from;
    },
    λ h. (let a = h.after in let b = h.before in omega arith),
  )

-- what holds of the numbers of an equal plan holds of the plan's
module _ (start receives : ℕ → ℕ) (nodes : ℕ) (v : Log) (laws : PlanLaws nodes receives start)
    (sized : nodes ≡ v.setup.nodes) (few : v.setup.rounds ≤ 4096) where
  run_plan : IsPlan (world_of start v)
  run_plan = plan_is start receives nodes v laws sized

  -- the sends of a round end within 32 bits
  pub sends_small : (r : ℕ) → 1 ≤ r → r ≤ 4096 → start r + nodes < 2 ^ 32
  sends_small r z l =
      let next = laws.next_start r z in
      let top = start_le (world_of start v) run_plan (r + 1) 4097 (omega arith) (omega arith) in
      let small = laws.few_steps in
      omega arith

  pub past_all : (low high : ℕ) → start (v.setup.rounds + 1) ≤ low
      → HasReceive (world_of start v) low high → ⊥
  past_all low high past h = no_receive_past (world_of start v) run_plan low high past h

  pub slot_first : (r to low high x : ℕ) → IsSendSlot nodes start low r to
      → low < start (v.setup.rounds + 1) → x ≡ start r + nodes
      → (x < high) ↔ HasReceive (world_of start v) low high
  slot_first r to low high x slot within is =
      let z = slot.of_round in
      let at = slot.place in
      let small = slot.to_node in
      let n = nodes_are start v in
      first_after_slot (world_of start v) run_plan r x low high z.0
      (round_within (world_of start v) run_plan r low (omega arith) within) (omega arith)
      (omega arith) (omega arith)

  pub receive_first : (r low high : ℕ) (last : Bool) → IsReceiveSlot nodes start low r last
      → low < start (v.setup.rounds + 1) → (low < high) ↔ HasReceive (world_of start v) low high
  receive_first r low high last slot within =
      let z = slot.of_round in
      let from = slot.after_sends in
      let upto = slot.before_end in
      let n = nodes_are start v in
      first_here (world_of start v) run_plan r low high z.0
      (round_within (world_of start v) run_plan r low (omega arith) within) (omega arith) upto
