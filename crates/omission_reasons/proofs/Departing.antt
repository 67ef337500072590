-- Where a copy is made, and where it leaves.
use Rattle.std.proofs.Common.{◌≡◌, ℕ, ◌<◌, List, Option, None, Some, subst, arith}
use Rattle.std.specs.Prelude.{MatchOption}
use Rattle.run_events.specs.declared.event.Event.{Event}
use Rattle.run_events.specs.declared.name.Name.{Name}
use Rattle.step_book.specs.Places.{Copied, IsCopyAt, IsFirstAfter, IsLeftAt, IsMadeAt, IsSlotAt}
use Rattle.step_book.specs.Places.{Sent}
use Rattle.step_book.specs.World.{World}
use Rattle.step_book.proofs.Placed.{first_one}
use Rattle.omission_reasons.specs.Departures.{IsGone, LeavesAt}
use Rattle.omission_reasons.proofs.Times.{one_made, one_slot}

-- a place of the message's slot
pub record HasSlot (w : World) (trace : List Event) (n : Name) : Type 0 where
  pub place : ℕ
  pub slot : IsSlotAt w trace n place

module _ (w : World) (trace : List Event) (n : Name) where
  -- the slot comes before a copy is made
  pub slot_of : (p : ℕ) → IsMadeAt w trace n p → HasSlot w trace n
  slot_of p (Sent c h) = record { place = p; slot = h }
  slot_of p (Copied l h) = record { place = h.slot; slot = h.sent }

  copied_none : (p s : ℕ) → 0 < n.copy → IsMadeAt w trace n p → IsSlotAt w trace n s
      → ((k : ℕ) → s < k → IsCopyAt trace n k → ⊥) → ⊥
  copied_none p s l (Sent c h) slot none = absurd (omega arith)
  copied_none p s l (Copied m h) slot none =
      let same = one_slot trace w n h.slot s h.sent slot in
      let later = h.first.later in
      none p (omega arith) h.first.there

  copied_some : (p s q : ℕ) → 0 < n.copy → IsMadeAt w trace n p → IsSlotAt w trace n s
      → IsFirstAfter (IsCopyAt trace n) s q → IsMadeAt w trace n q
  copied_some p s q l (Sent c h) slot first = absurd (omega arith)
  copied_some p s q l (Copied m h) slot first =
      subst (IsMadeAt w trace n)
      (first_one (IsCopyAt trace n) h.slot p s q (one_slot trace w n h.slot s h.sent slot) h.first
      first) (Copied m h)

  -- the first event after the slot that makes a copy made it
  pub copied_at : (p s : ℕ) (found : Option ℕ) → 0 < n.copy → IsMadeAt w trace n p
      → IsSlotAt w trace n s
      → MatchOption found ((k : ℕ) → s < k → IsCopyAt trace n k → ⊥)
      (IsFirstAfter (IsCopyAt trace n) s) → MatchOption found ⊥ (IsMadeAt w trace n)
  copied_at p s None l made slot none = copied_none p s l made slot none
  copied_at p s (Some q) l made slot first = copied_some p s q l made slot first

  -- the first release or drop after it was made is where it leaves
  pub leaves_at : (a : ℕ) (found : Option ℕ) → IsGone w trace n → IsMadeAt w trace n a
      → MatchOption found ((k : ℕ) → a < k → IsLeftAt trace n k → ⊥)
      (IsFirstAfter (IsLeftAt trace n) a) → MatchOption found ⊥ (LeavesAt w trace n)
  leaves_at a None gone made none =
      let same = one_made trace w n gone.leaves.made_at a gone.leaves.made made in
      let later = gone.leaves.first.later in
      none gone.place (omega arith) gone.leaves.first.there
  leaves_at a (Some b) gone made first = record { made_at = a; made = made; first = first }

  -- it leaves at one place
  pub leaves_one : (b c : ℕ) → LeavesAt w trace n b → LeavesAt w trace n c → b ≡ c
  leaves_one b c f g = first_one (IsLeftAt trace n) f.made_at b g.made_at c
      (one_made trace w n f.made_at g.made_at f.made g.made) f.first g.first
