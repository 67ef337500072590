-- When the step that a node takes next keeps the bound.
use Rattle.std.proofs.Common.{◌≡◌, ℕ, ◌+◌, ◌^◌, ◌<◌, ◌≤◌, ◌↔◌, Bool, true, false, not}
use Rattle.std.proofs.Common.{max, List, get_or, sym, subst, refl, ap, ◌∙◌, arith}
use Rattle.std.proofs.lemmas.Bool.{and_from, and_parts, lt-ltb, both_ways}
use Rattle.round_lang.specs.Sets.{is_in}
use Rattle.round_meaning.specs.Nodes.{has_node}
use Rattle.slot_plans.specs.Plan.{PlanLaws}
use Rattle.run_events.specs.declared.event.Event.{Event}
use Rattle.run_events.specs.declared.name.Name.{Name}
use Rattle.step_book.specs.Log.{Log, world_of}
use Rattle.step_book.specs.Slots.{IsMessageAt, IsNoMessageAt}
use Rattle.step_book.specs.Trace.{steps}
use Rattle.step_book.specs.World.{World, IsPlan}
use Rattle.step_book.proofs.Slots.{one_message}
use Rattle.omission_explainer.specs.Lateness.{HasReceive, KeepsBound, marks_of, open_until}
use Rattle.omission_explainer.proofs.Slots.{sends_small}

-- a member that may be a node is found
pub has_member : (members i : ℕ) → i < 64 → is_in members i ≡ true → has_node members i ≡ true
has_member members i small h = and_from _ _ (lt-ltb i 64 small) h

pub member_of : (members i : ℕ) → has_node members i ≡ true → is_in members i ≡ true
member_of members i h = (and_parts _ _ h).1

module _ (w : World) (t : List Event) (correct delta gst : ℕ) (counts : List ℕ) (j : ℕ)
    (plan : IsPlan w) where
  pub keeps_early : get_or counts j 0 < gst → KeepsBound w t correct delta gst counts j
  keeps_early early n own here late = absurd (omega arith)

  pub keeps_silent : IsNoMessageAt w (get_or counts j 0) → KeepsBound w t correct delta gst counts j
  keeps_silent none n own here late = absurd (none n own.named own.slot)

  pub keeps_other : (n : Name) → IsMessageAt w j (get_or counts j 0) n
      → (is_in correct n.to ≡ true → ⊥) → KeepsBound w t correct delta gst counts j
  keeps_other n s out m own here late has =
      let same = one_message w plan j (get_or counts j 0) n m s own in
      out (ap (λ (x : Name). is_in correct x.to) same ∙ here)

  -- what a receive of the slot's receiver may find too late
  abbrev pub Late : Name → Type 0
  Late n = HasReceive w (max (get_or counts j 0 + delta) (get_or counts n.to 0))
      (open_until (steps n.to t) (marks_of w t n))

  pub keeps_at : (n : Name) (b : Bool) → IsMessageAt w j (get_or counts j 0) n
      → is_in correct n.to ≡ true → gst ≤ get_or counts j 0 → (b ≡ true) ↔ Late n
      → (not b ≡ true) ↔ KeepsBound w t correct delta gst counts j
  keeps_at n b s here late both = (
    λ h m own member due has. both_ways b (not_is b h)
        (both.1 (subst (λ (x : Name). Late x)
        (sym (one_message w plan j (get_or counts j 0) n m s own)) has)),
    λ keeps. is_not b (λ on. keeps n s here late (both.0 on)),
  )
    where
      not_is : (x : Bool) → not x ≡ true → x ≡ false
      not_is true h = cc
      not_is false h = refl

      is_not : (x : Bool) → (x ≡ true → ⊥) → not x ≡ true
      is_not true h = absurd (h refl)
      is_not false h = refl

-- a slot's step number with a delay fits 64 bits
pub slot_small : (start receives : ℕ → ℕ) (nodes : ℕ) (v : Log) → PlanLaws nodes receives start
    → nodes ≡ v.setup.nodes → v.setup.rounds ≤ 4096 → (j x : ℕ) (n : Name)
    → IsMessageAt (world_of start v) j x n → n.to < nodes → x < 2 ^ 32
slot_small start receives nodes v laws sized few j x n s to =
    let first = s.named.first in
    let last = s.named.last in
    let at = s.slot in
    omega (
      arith,
      sends_small start receives nodes v laws sized few n.round (omega arith)
          (omega arith),
    )
