-- The first receive among a node's steps from one on.
use Rattle.std.proofs.Common.{◌≡◌, ℕ, ◌+◌, ◌<◌, ◌≤◌, Bool, ◌∙◌, arith}
use Rattle.std.proofs.lemmas.Bool.{lt-leb}
use Rattle.slot_plans.specs.Plan.{PlanLaws}
use Rattle.slot_plans.specs.Slot.{IsReceiveSlot, IsSendSlot}
use Rattle.step_book.specs.Log.{Log, world_of}
use Rattle.step_book.specs.World.{IsPlan, World}
use Rattle.step_book.proofs.Plans.{is_receive_at}
use Rattle.step_book.proofs.Reading.{nodes_are}
use Rattle.step_book.proofs.Slots.{round_within}
use Rattle.step_book.proofs.Starts.{plan_is}
use Rattle.step_book.proofs.WaitsKept.{idle_is_no_receive}
use Rattle.omission_reasons.specs.Departures.{IsFirstReceive, NoReceiveFrom}

module _ (start receives : ℕ → ℕ) (nodes : ℕ) (v : Log) (laws : PlanLaws nodes receives start)
    (sized : nodes ≡ v.setup.nodes) where
  abbrev w : World
  w = world_of start v

  run_plan : IsPlan w
  run_plan = plan_is start receives nodes v laws sized

  pub none_past : (low : ℕ) → start (v.setup.rounds + 1) ≤ low → NoReceiveFrom w low
  none_past low past x l = idle_is_no_receive w run_plan x (omega arith)

  -- from a send on it's the first of the round
  pub after_send : (r to low x : ℕ) → IsSendSlot nodes start low r to
      → low < start (v.setup.rounds + 1) → x ≡ start r + nodes
      → IsFirstReceive w low (record { step = x; round = r })
  after_send r to low x slot within is =
      let z = slot.of_round in
      let at = slot.place in
      let small = slot.to_node in
      let n = nodes_are start v in
      let first = z.0 in
      let last = round_within w run_plan r low (omega arith) within in
      let long = run_plan.next r (omega arith) in
      record {
        after = omega arith;
        receive = record {
          first = first;
          last = last;
          after_sends = omega arith;
          before_end = omega arith;
        };
        first = λ y l h.
            is_receive_at w run_plan r y (omega arith) last (omega arith) (omega arith)
            ∙ lt-leb _ _ (omega arith);
      }

  -- and a receive is the first itself
  pub at_receive : (r low : ℕ) (last : Bool) → IsReceiveSlot nodes start low r last
      → low < start (v.setup.rounds + 1)
      → IsFirstReceive w low (record { step = low; round = r })
  at_receive r low last slot within =
      let z = slot.of_round in
      let from = slot.after_sends in
      let upto = slot.before_end in
      let n = nodes_are start v in
      let first = z.0 in
      record {
        after = omega arith;
        receive = record {
          first = first;
          last = round_within w run_plan r low (omega arith) within;
          after_sends = omega arith;
          before_end = upto;
        };
        first = λ y l h. absurd (omega arith);
      }
