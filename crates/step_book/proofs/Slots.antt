-- Which message a step is the slot of.
use Rattle.std.proofs.Common.{◌≡◌, ℕ, suc, ◌+◌, ◌-◌, ◌<◌, ◌≤◌, ◌⊎◌, inl, inr, refl, sym, ap, ◌∙◌}
use Rattle.std.proofs.Common.{Bool, arith}
use Rattle.std.proofs.lemmas.Bool.{cases_lt}
use Rattle.slot_plans.specs.Plan.{PlanLaws}
use Rattle.slot_plans.specs.Slot.{IsSendSlot, IsReceiveSlot}
use Rattle.run_events.specs.declared.name.Name.{Name}
use Rattle.step_book.specs.Log.{Log, world_of}
use Rattle.step_book.specs.Slots.{IsMessageAt, IsNoMessageAt}
use Rattle.step_book.specs.World.{World, IsPlan, nodes_of}
use Rattle.step_book.proofs.Keeps.{idle_no_slot, receive_no_slot, round_same}
use Rattle.step_book.proofs.Names.{name_same}
use Rattle.step_book.proofs.Plans.{start_le}
use Rattle.step_book.proofs.Reading.{nodes_are}
use Rattle.step_book.proofs.Starts.{plan_is}

module _ (w : World) (plan : IsPlan w) where
  -- a round that starts before the last one ends isn't after it
  pub round_within : (r x : ℕ) → w.start r ≤ x → x < w.start (w.rounds + 1) → r ≤ w.rounds
  round_within r x low high = by (cases_lt w.rounds r)
    where
      by : (w.rounds < r) ⊎ (r ≤ w.rounds) → r ≤ w.rounds
      by (inl late) =
          absurd (omega (arith, start_le w plan (w.rounds + 1) r (omega arith) (omega arith)))
      by (inr within) = within

  -- after the last round nothing is sent
  pub no_message_past : (x : ℕ) → w.start (w.rounds + 1) ≤ x → IsNoMessageAt w x
  no_message_past x past n a at =
      let first = a.first in
      let back : n.round ≡ suc (n.round - 1) = omega arith in
      idle_no_slot w plan (n.round - 1) n.to x (let last = a.last in omega arith) a.to past (at
      ∙ ap (λ r. w.start r + n.to) back)

  -- at a receive nothing is sent
  pub no_message_there : (r x : ℕ) → 1 ≤ r → w.start r + nodes_of w ≤ x → x < w.start (r + 1)
      → IsNoMessageAt w x
  no_message_there r x z low high n a at =
      let first = a.first in
      let back : n.round ≡ suc (n.round - 1) = omega arith in
      receive_no_slot w plan r (n.round - 1) n.to x z a.to low high (at
      ∙ ap (λ r. w.start r + n.to) back)

  -- a step is the slot of one message
  pub one_message : (i x : ℕ) (n m : Name) → IsMessageAt w i x n → IsMessageAt w i x m → n ≡ m
  one_message i x n m a b =
      let few = a.named.to in
      let other = b.named.to in
      let at = a.slot in
      let first = b.named.first in
      let long = plan.next n.round a.named.first in
      let back : m.round ≡ suc (m.round - 1) = omega arith in
      let slot : x ≡ w.start (suc (m.round - 1)) + m.to = b.slot
      ∙ ap (λ r. w.start r + m.to) back in
      let round : n.round ≡ m.round = round_same w plan n.round
      (m.round - 1) m.to x a.named.first other (omega arith) (omega arith) slot ∙ sym back in
      let start = ap w.start round in
      let there = b.slot in
      let to : n.to ≡ m.to = omega arith in
      name_same n m (a.from ∙ sym b.from) to round (a.copy ∙ sym b.copy)

module _ (start receives : ℕ → ℕ) (nodes : ℕ) (v : Log) (laws : PlanLaws nodes receives start)
    (sized : nodes ≡ v.setup.nodes) where
  run_plan : IsPlan (world_of start v)
  run_plan = plan_is start receives nodes v laws sized

  pub all_rounds : v.setup.rounds ≤ 4096 → start (v.setup.rounds + 1) ≤ start 4097
  all_rounds few = start_le (world_of start v) run_plan (v.setup.rounds + 1) 4097 (omega arith)
      (omega arith)

  pub none_past : (x : ℕ) → start (v.setup.rounds + 1) ≤ x → IsNoMessageAt (world_of start v) x
  none_past x past = no_message_past (world_of start v) run_plan x past

  pub none_there : (r x : ℕ) (last : Bool) → IsReceiveSlot nodes start x r last
      → IsNoMessageAt (world_of start v) x
  none_there r x last slot =
      let z = slot.of_round in
      let from = slot.after_sends in
      let n = nodes_are start v in
      no_message_there (world_of start v) run_plan r x z.0 (omega arith) slot.before_end

  pub message_is : (r i to x : ℕ) → i < v.setup.nodes → IsSendSlot nodes start x r to
      → x < start (v.setup.rounds + 1)
      → IsMessageAt (world_of start v) i x (record { from = i; to = to; round = r; copy = 0 })
  message_is r i to x node slot within =
      let z = slot.of_round in
      let at = slot.place in
      let small = slot.to_node in
      let n = nodes_are start v in
      record {
        named = record {
          from = omega arith;
          to = omega arith;
          first = z.0;
          last = round_within (world_of start v) run_plan r x (omega arith) within;
          copy = omega arith;
        };
        copy = refl;
        from = refl;
        slot = at;
      }
