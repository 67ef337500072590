-- What each policy chooses, and what becomes of it.
use Rattle.std.specs.Prelude.{◌≡◌, ℕ, ◌+◌, ◌<◌, ◌≤◌, min, max, List, [], ◌∷◌, length}
use Rattle.std.specs.Prelude.{slice_index_or, Option, Some, None, All, if◌then◌else◌, ltb}
use Rattle.run_events.specs.declared.in_flight.InFlight.{InFlight}
use Rattle.run_events.specs.declared.name.Name.{Name}
use Rattle.run_events.specs.Names.{original}
use Rattle.policies.specs.declared.bounded.Bounded.{Bounded}
use Rattle.policies.specs.declared.policy.Choice.{Choice}
use Rattle.policies.specs.declared.policy.Choice.TheVariants.{Release}
use Rattle.policies.specs.Tables.{round_entry}

-- the release of the first message in flight, if there is one
abbrev pub prompt_choice : List InFlight → Option Choice
prompt_choice [] = None
prompt_choice (m ∷ rest) = Some (Release 0)

-- the message at place k is such a one, and none before it is
abbrev pub IsFirstPlace : (InFlight → Type 0) → List InFlight → ℕ → Type 0
IsFirstPlace Such flight k =
    (k < length flight) × ((d : InFlight) → Such (slice_index_or flight k d))
    × ((j : ℕ) (d : InFlight) → j < k → ¬ (Such (slice_index_or flight j d)))

-- copy 0 of the message is in flight under this entry
abbrev pub IsOriginalOf : Name → InFlight → Type 0
IsOriginalOf n m = m.name ≡ original n

-- the next message of a script is released by its copy 0 and used up; if that isn't in flight
-- nothing is chosen, and the script stays
abbrev pub ScriptChooses : List Name → List InFlight → Option Choice → List Name → Type 0
ScriptChooses [] flight answer new = (answer ≡ None) × (new ≡ [])
ScriptChooses (n ∷ rest) flight None new = All (λ m. ¬ (IsOriginalOf n m)) flight × (new ≡ n ∷ rest)
ScriptChooses (n ∷ rest) flight (Some (Release k)) new =
    IsFirstPlace (IsOriginalOf n) flight k × (new ≡ rest)
ScriptChooses (n ∷ rest) flight (Some c) new = ⊥

-- the next choice is made as it stands and used up; after the last, the first message is released
abbrev pub FaultyChooses : List Choice → List InFlight → Option Choice → List Choice → Type 0
FaultyChooses [] flight answer new = (answer ≡ prompt_choice flight) × (new ≡ [])
FaultyChooses (c ∷ rest) flight answer new = (answer ≡ Some c) × (new ≡ rest)

-- with fewer messages in flight than the count nothing is chosen; else the first message is
-- released, and from then on no count is asked for
pub record HoardChooses (count : ℕ) (flight : List InFlight)
    (answer : Option Choice) (new : ℕ) : Type 0 where
  pub waits : length flight < count → (answer ≡ None) × (new ≡ count)
  pub begins : count ≤ length flight → (answer ≡ prompt_choice flight) × (new ≡ 0)

-- the delay of a message by the table, in which an entry of 0 counts as 1
abbrev pub table_delay : Bounded → InFlight → ℕ
table_delay b m = max (round_entry b.delays m.serial 1) 1

-- the delay of a message: within the bound if it was sent at `gst` or later
abbrev pub delay_of : Bounded → InFlight → ℕ
delay_of b m = if ltb m.sent_at b.gst then table_delay b m else min (table_delay b m) b.delta

-- the tick from which on the message is released
abbrev pub due_at : Bounded → InFlight → ℕ
due_at b m = m.sent_at + delay_of b m

-- the tick has come
abbrev pub IsDue : Bounded → ℕ → InFlight → Type 0
IsDue b now m = due_at b m ≤ now

-- the message at place k is due, no other that is due has a smaller serial, and none before it has
-- the same
pub record IsLeastDue (b : Bounded) (now : ℕ) (flight : List InFlight) (k : ℕ) : Type 0 where
  pub within : k < length flight
  pub due : (d : InFlight) → IsDue b now (slice_index_or flight k d)
  pub least : (j : ℕ) (d : InFlight) → j < length flight → IsDue b now (slice_index_or flight j d)
      → (slice_index_or flight k d).serial ≤ (slice_index_or flight j d).serial
  pub first : (j : ℕ) (d : InFlight) → j < k → IsDue b now (slice_index_or flight j d)
      → (slice_index_or flight k d).serial < (slice_index_or flight j d).serial

-- the least serial of those that are due is released, and nothing if none is
abbrev pub BoundedChooses : Bounded → ℕ → List InFlight → Option Choice → Type 0
BoundedChooses b now flight None = All (λ m. ¬ (IsDue b now m)) flight
BoundedChooses b now flight (Some (Release k)) = IsLeastDue b now flight k
BoundedChooses b now flight (Some c) = ⊥
