-- Where the events of a trace stand that name a node or a message.
use Rattle.std.specs.Prelude.{ℕ, ◌+◌, ◌*◌, ◌==◌, Bool, false, if◌then◌else◌, List, [], ◌∷◌}
use Rattle.std.specs.Prelude.{◌++◌, length}
use Rattle.run_events.specs.Events.{of_event}
use Rattle.run_events.specs.declared.event.Event.{Event}
use Rattle.run_events.specs.declared.name.Name.{Name}

-- a list of places once an event has happened at this place: with it, if the event passes the test
abbrev pub listed : (Event → Bool) → Event → ℕ → List ℕ → List ℕ
listed test e place places = if test e then places ++ place ∷ [] else places

-- the places of a history's events that pass a test, in rising order
unfoldable pub places_where : (Event → Bool) → List Event → List ℕ
places_where test [] = []
places_where test (e ∷ past) = listed test e (length past) (places_where test past)

-- the number of a message in a run with so many nodes, one for all of its copies
abbrev pub number_of : ℕ → Name → ℕ
number_of nodes n = (n.round * nodes + n.from) * nodes + n.to

-- the event is of the network, and names a message with this number
abbrev pub has_number : ℕ → ℕ → Event → Bool
has_number nodes k e = of_event (λ i. false) (λ n. number_of nodes n == k) e
