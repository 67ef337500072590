-- The least of what is due among the first messages of a flight.
use Rattle.std.proofs.Common.{ℕ, ◌<◌, ◌≤◌, List, Option, Some, None, get_or}
use Rattle.run_events.specs.declared.in_flight.InFlight.{InFlight}
use Rattle.policies.specs.declared.bounded.Bounded.{Bounded}
use Rattle.policies.specs.Policies.{IsDue}

-- of the first n messages, the one at place k is due and the first with the least serial
pub record IsLeastAmong (b : Bounded) (now : ℕ) (flight : List InFlight) (n k : ℕ) : Type 0 where
  pub within : k < n
  pub due : (d : InFlight) → IsDue b now (get_or flight k d)
  pub least : (j : ℕ) (d : InFlight) → j < n → IsDue b now (get_or flight j d)
      → (get_or flight k d).serial ≤ (get_or flight j d).serial
  pub first : (j : ℕ) (d : InFlight) → j < k → IsDue b now (get_or flight j d)
      → (get_or flight k d).serial < (get_or flight j d).serial

-- none of the first n messages is due
abbrev pub NoneIsDue : Bounded → ℕ → List InFlight → ℕ → Type 0
NoneIsDue b now flight n = (j : ℕ) (d : InFlight) → j < n → ¬ (IsDue b now (get_or flight j d))

-- the place found so far
abbrev pub IsFound : Bounded → ℕ → List InFlight → ℕ → Option ℕ → Type 0
IsFound b now flight n None = NoneIsDue b now flight n
IsFound b now flight n (Some k) = IsLeastAmong b now flight n k
