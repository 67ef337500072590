-- The copies in flight, in order.
use Rattle.std.specs.Prelude.{◌≡◌, ℕ, ◌+◌, ◌<◌, ◌⊎◌, List, All, AllPairs, Contains, map}
use Rattle.step_book.specs.Log.{Log, IsFlying, history, world_of}
use Rattle.step_book.specs.Names.{IsName}
use Rattle.step_book.specs.Serials.{serial}
use Rattle.run_events.specs.declared.in_flight.InFlight.{InFlight}
use Rattle.run_events.specs.declared.name.Name.{Name}

-- a copy in flight, with the step number of its message's slot and its message's serial
pub record IsEntry (start : ℕ → ℕ) (v : Log) (m : InFlight) : Type 0 where
  pub named : IsName v.setup m.name
  pub flies : IsFlying start v m.name
  pub slot : m.sent_at ≡ start m.name.round + m.name.to
  pub place : m.serial ≡ serial (world_of start v) (history v) m.name

-- an earlier message, or an earlier copy of the same message
abbrev pub Precedes : InFlight → InFlight → Type 0
Precedes a b = (a.serial < b.serial) ⊎ ((a.serial ≡ b.serial) × (a.name.copy < b.name.copy))

-- the names of the copies
abbrev pub names_of : List InFlight → List Name
names_of flight = map (λ (m : InFlight). m.name) flight

-- each copy that is in flight, once, in the order of the serials and then of the copy numbers
pub record IsFlight (start : ℕ → ℕ) (v : Log) (flight : List InFlight) : Type 0 where
  pub each : All (IsEntry start v) flight
  pub every : (n : Name) → IsName v.setup n → IsFlying start v n → Contains (names_of flight) n
  pub rises : AllPairs Precedes flight

-- it comes before copy c of the message with serial k
abbrev pub ComesBefore : ℕ → ℕ → ℕ → Name → Type 0
ComesBefore k c s n = (s < k) ⊎ ((s ≡ k) × (n.copy < c))

-- of the copies in flight those before copy c of the message with serial k
pub record IsFlightBefore (start : ℕ → ℕ) (v : Log) (k c : ℕ) (flight : List InFlight)
    : Type 0 where
  pub each : All (IsEntry start v) flight
  pub before : All (λ (m : InFlight). ComesBefore k c m.serial m.name) flight
  pub every : (n : Name) → IsName v.setup n → IsFlying start v n
      → ComesBefore k c (serial (world_of start v) (history v) n) n → Contains (names_of flight) n
  pub rises : AllPairs Precedes flight
