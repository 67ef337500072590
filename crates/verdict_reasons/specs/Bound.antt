-- By which receive a message breaks the bound on the delay.
use Rattle.std.specs.Prelude.{◌≡◌, ℕ, ◌+◌, ◌<◌, ◌≤◌, true, false, Option, Some, None}
use Rattle.std.specs.Prelude.{if◌then◌else◌, nat_lt}
use Rattle.round_lang.specs.Sets.{is_in}
use Rattle.step_book.specs.Log.{Log, world_of}
use Rattle.step_book.specs.Places.{IsStepAt}
use Rattle.step_book.specs.World.{World, is_receive}
use Rattle.omission_explainer.specs.Verdict.{IsLetInBetween, IsSentAt}
use Rattle.verdict_reasons.specs.declared.bound.BoundBreak.{BoundBreak}

-- a correct node sends a correct one this message at `sent`, by its step number gst or more; the
-- receiver receives at `received`, by its step number `sent_step` + delta or more, and no copy of
-- the message was let in since it was sent
pub record IsBoundBreak (start : ℕ → ℕ) (v : Log) (correct delta gst : ℕ) (b : BoundBreak)
    : Type 0 where
  pub from : is_in correct b.name.from ≡ true
  pub to : is_in correct b.name.to ≡ true
  pub sends : IsSentAt start v b.name b.sent_step b.sent
  pub stable : gst ≤ b.sent_step
  pub there : IsStepAt v.trace b.name.to b.received_step b.received
  pub receives : is_receive (world_of start v) b.received_step ≡ true
  pub due : b.sent_step + delta ≤ b.received_step
  pub later : b.sent < b.received
  pub lacks : ¬ IsLetInBetween (world_of start v) v.trace b.name b.sent b.received

-- no receive at an earlier place breaks the bound, nor this one by a message that was sent earlier
pub record IsFirstBoundBreak (start : ℕ → ℕ) (v : Log) (correct delta gst : ℕ) (b : BoundBreak)
    : Type 0 where
  pub breaks : IsBoundBreak start v correct delta gst b
  pub first : (other : BoundBreak) → IsBoundBreak start v correct delta gst other
      → b.received ≤ other.received
  pub oldest : (other : BoundBreak) → IsBoundBreak start v correct delta gst other
      → other.received ≡ b.received → b.sent ≤ other.sent

-- of what is sent at this place no receive breaks the bound earlier
pub record IsBreakAt (start : ℕ → ℕ) (v : Log) (correct delta gst place : ℕ) (b : BoundBreak)
    : Type 0 where
  pub breaks : IsBoundBreak start v correct delta gst b
  pub sent_there : b.sent ≡ place
  pub first : (other : BoundBreak) → IsBoundBreak start v correct delta gst other
      → other.sent ≡ place → b.received ≤ other.received

-- of the step numbers from low on and below high, this is the first that is a receive
pub record IsFirstWithin (w : World) (low high step : ℕ) : Type 0 where
  pub after : low ≤ step
  pub before : step < high
  pub receive : is_receive w step ≡ true
  pub first : (x : ℕ) → low ≤ x → x < step → is_receive w x ≡ false

-- which of the two has the earlier receive: the second one only if its receive is earlier
abbrev pub sooner : Option BoundBreak → Option BoundBreak → Option BoundBreak
sooner None next = next
sooner (Some b) None = Some b
sooner (Some b) (Some c) = if nat_lt c.received b.received then Some c else Some b
