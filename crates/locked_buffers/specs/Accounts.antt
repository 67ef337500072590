-- When what the seats and the relay were told is what the record says of the run.
use Rattle.std.specs.Prelude.{◌≡◌, ℕ, ◌<◌, List, [], ◌∷◌, ◌++◌, length, slice_index_or}
use Rattle.step_book.specs.Agreement.{row}
use Rattle.step_book.specs.History.{answers_of, handed_of}
use Rattle.step_book.specs.Log.{Log, Recorded, count_of, history, world_of}
use Rattle.run_events.specs.Events.{of_event}
use Rattle.run_events.specs.declared.event.Event.{Event}
use Rattle.locked_buffers.specs.Seats.{Account, Told}

-- the event, if it's one of the network
abbrev pub network_event : Event → List Event
network_event e = of_event (λ i. []) (λ n. e ∷ []) e

-- the events of the network, in their order
abbrev pub network_events : List Event → List Event
network_events [] = []
network_events (e ∷ es) = network_event e ++ network_events es

-- the account is of node i, with the steps that the record has of it, the names that waited just
-- before each of its receives, and its recorded states
pub record IsAccountOf (start : ℕ → ℕ) (v : Log) (i : ℕ) (a : Account) : Type 0 where
  pub node : a.node ≡ i
  pub steps : a.steps ≡ count_of v i
  pub handed : a.handed ≡ handed_of (world_of start v) i (history v)
  pub states : a.states ≡ row v.rows i

-- the events told are those of the network in the record, in their order, and the answers are what
-- became of them
pub record IsTold (start : ℕ → ℕ) (v : Log) (t : Told) : Type 0 where
  pub events : t.events ≡ network_events v.trace
  pub answers : t.answers ≡ answers_of (world_of start v) (history v)

-- there is one account for each node of the run, in the order of the nodes, and each is the
-- record's, as is what the network was told
pub record AccountsAgree {P : Type 0} (start : ℕ → ℕ) (b : Recorded P) (seats : List Account)
    (relay : Told) : Type 0 where
  pub seated : length seats ≡ b.log.setup.nodes
  pub each : (i : ℕ) (d : Account) → i < b.log.setup.nodes
      → IsAccountOf start b.log i (slice_index_or seats i d)
  pub told : IsTold start b.log relay
