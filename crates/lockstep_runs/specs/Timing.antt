-- What a run in lockstep goes by.
use Rattle.std.specs.Prelude.{ℕ, min, Bool, Option, Some, None}
use Rattle.run_events.specs.declared.in_flight.InFlight.{InFlight}
use Rattle.run_events.specs.declared.name.Name.{Name}

-- after how many steps a node stops, if it does; which node steps first in a tick; which messages
-- are omitted; and in which tick each of the others is due
pub record Timing : Type 0 where
  pub stop : ℕ → Option ℕ
  pub first : ℕ → ℕ
  pub omits : Name → Bool
  pub due : InFlight → ℕ

-- how many steps a node takes in so many ticks: one in each until it stops
abbrev pub steps_in : ℕ → Option ℕ → ℕ
steps_in ticks None = ticks
steps_in ticks (Some stop) = min ticks stop
