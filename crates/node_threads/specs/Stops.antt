-- After how many steps the threads of nodes stop.
use Rattle.std.specs.Prelude.{ℕ, ◌<◌, ◌==◌, All, List, [], ◌∷◌, Option, Some, None}
use Rattle.std.specs.Prelude.{if◌then◌else◌}
use Rattle.schedule_text.specs.declared.pace.Stop.{Stop}

-- each stop is of one of n nodes
abbrev pub AreStops : ℕ → List Stop → Type 0
AreStops n stops = All (λ stop. stop.node < n) stops

-- the number of steps of the last stop that is node i's, else this one
abbrev pub stop_or : Option ℕ → List Stop → ℕ → Option ℕ
stop_or found [] i = found
stop_or found (stop ∷ stops) i = stop_or (if stop.node == i then Some stop.steps else found) stops i

-- after how many steps node i stops: what its last stop says, none if it has no stop
abbrev pub stop_of : List Stop → ℕ → Option ℕ
stop_of stops i = stop_or None stops i
