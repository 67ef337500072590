-- What the network knows to be in flight, event by event.
use Rattle.std.specs.Prelude.{◌≡◌, ◌⊎◌, ℕ, ◌+◌, ◌-◌, ◌^◌, ◌<◌, ◌≤◌, List, [], ◌∷◌, Some, insert}
use Rattle.std.specs.Prelude.{length, max, min, remove, slice_get}
use Rattle.policies.specs.declared.policy.Choice.{Choice}
use Rattle.policies.specs.declared.policy.Choice.TheVariants as choice
use Rattle.run_events.specs.declared.event.Event.{Event}
use Rattle.run_events.specs.declared.event.Event.TheVariants.{Copy}
use Rattle.run_events.specs.declared.in_flight.InFlight.{InFlight}
use Rattle.run_events.specs.declared.name.Name.{Name}

-- of this many entries so many at the beginning are gone: no more than are left, or than 64
pub record AreFewGone (entries gone : ℕ) : Type 0 where
  pub there : gone ≤ entries
  pub few : gone ≤ max 64 (entries - gone)

-- a message that was sent, if the network knew so many before it
abbrev pub sent_as : (start : ℕ → ℕ) → (known : ℕ) → Name → InFlight
sent_as start known n =
    record { name = n; sent_at = min (start n.round + n.to) (2 ^ 32 - 1); serial = known }

-- at this place is a copy of the message with this serial
abbrev pub IsCopyAt : List InFlight → (serial place : ℕ) → Type 0
IsCopyAt flight serial place =
    (message : InFlight) × (slice_get flight place ≡ Some message) × (message.serial ≡ serial)

-- the entries from place k on that come before the end are all copies of one message that follow
-- each other there
pub record AreCopies (flight : List InFlight) (serial k end : ℕ) : Type 0 where
  pub some : k < end
  pub known : end ≤ length flight
  pub same : (place : ℕ) → k ≤ place → place < end → IsCopyAt flight serial place
  pub last : (end ≡ length flight) ⊎ ((IsCopyAt flight serial end) → ⊥)

-- a copy of the message at place k goes behind the last of its copies
pub record IsCopied (old : List InFlight) (k : ℕ) (copied : Name)
    (new : List InFlight) : Type 0 where
  pub message : InFlight
  pub at : slice_get old k ≡ Some message
  pub end : ℕ
  pub copies : AreCopies old message.serial k end
  pub put : new ≡ insert old end (record message { name = copied })

-- what stood at place k is gone; past the end nothing did
pub record IsGone (old : List InFlight) (k : ℕ) (new : List InFlight) : Type 0 where
  pub there : k < length old → new ≡ remove old k
  pub past : length old ≤ k → new ≡ old

-- what is in flight after an event that came of a choice: what was released or dropped is gone, and
-- a copy is there
abbrev pub IsNoted : Choice → Event → (old new : List InFlight) → Type 0
IsNoted (choice.Release k) e old new = IsGone old k new
IsNoted (choice.Drop k) e old new = IsGone old k new
IsNoted (choice.Copy k) (Copy m) old new =
    (k < length old → IsCopied old k m new) × (length old ≤ k → new ≡ old)
IsNoted (choice.Copy k) e old new = new ≡ old

-- how many messages the network knows after these too, as long as the count has room
abbrev pub known_with : (known : ℕ) → List Name → ℕ
known_with known [] = known
known_with known (n ∷ ns) = known_with (min (known + 1) (2 ^ 64 - 1)) ns

-- messages that were sent one after another, if the network knew so many before them
abbrev pub sent_after : (start : ℕ → ℕ) → (known : ℕ) → List Name → List InFlight
sent_after start known [] = []
sent_after start known (n ∷ ns) =
    sent_as start known n ∷ sent_after start (min (known + 1) (2 ^ 64 - 1)) ns
