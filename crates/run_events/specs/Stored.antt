-- Events and names in few bytes.
use Rattle.std.specs.Prelude.{ℕ, ◌/◌, ◌%◌, ◌<◌, ◌≤◌, List, [], ◌∷◌}
use Rattle.run_events.specs.Events.{of_event}
use Rattle.run_events.specs.Limits.{max_copy, max_nodes}
use Rattle.run_events.specs.declared.event.Event.{Event}
use Rattle.run_events.specs.declared.event.Event.TheVariants as event
use Rattle.run_events.specs.declared.name.Name.{Name}
use Rattle.run_events.specs.declared.stored_event.Kind.{Kind}
use Rattle.run_events.specs.declared.stored_event.Kind.TheVariants as kind

-- the name that two numbers say: sender and receiver in one byte, round and copy in two
abbrev pub name_of : ℕ → ℕ → Name
name_of ends turn = record {
  from = ends / 16;
  to = ends % 16;
  round = turn / 4;
  copy = turn % 4;
}

-- the event of a kind: a step of the node that the name begins with, or one that names a message
abbrev pub event_of : Kind → Name → Event
event_of kind.Step n = event.Step n.from
event_of kind.Release n = event.Release n
event_of kind.Drop n = event.Drop n
event_of kind.Copy n = event.Copy n

-- the numbers of the name are small enough to be stored
pub record IsStorableName (n : Name) : Type 0 where
  pub from : n.from < max_nodes
  pub to : n.to < max_nodes
  pub round : n.round < 16384
  pub copy : n.copy ≤ max_copy

-- the numbers of the event are small enough to be stored
abbrev pub IsStorable : Event → Type 0
IsStorable e = of_event (λ i. i < max_nodes) IsStorableName e

-- if there are events, the first has too large numbers
abbrev pub AreLate : List Event → Type 0
AreLate [] = Unit {0}
AreLate (e ∷ es) = ¬ IsStorable e
