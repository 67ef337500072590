-- What an event is of: a node's step, or an act of the network on a copy of a message.
use Rattle.std.specs.Prelude.{ℕ}
use Rattle.run_events.specs.declared.event.Event.{Event}
use Rattle.run_events.specs.declared.event.Event.TheVariants.{Step, Release, Drop, Copy}
use Rattle.run_events.specs.declared.name.Name.{Name}

-- the first of the node that steps, or the second of the name that the network acts on
abbrev pub of_event {ℓ} : {A : Type ℓ} → (ℕ → A) → (Name → A) → Event → A
of_event step act (Step i) = step i
of_event step act (Release n) = act n
of_event step act (Drop n) = act n
of_event step act (Copy n) = act n
