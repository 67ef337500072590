-- Messages by the order in which they were sent.
use Rattle.std.specs.Prelude.{◌≡◌, ℕ, zero, suc, ◌+◌, ◌-◌, ◌<◌, ◌↔◌, Bool, true, false, ◌&&◌}
use Rattle.std.specs.Prelude.{nat_le, nat_lt, if◌then◌else◌, List, [], ◌∷◌, length, Option, Some}
use Rattle.std.specs.Prelude.{None, is_some, slice_get}
use Rattle.step_book.specs.Fates.{is_slot}
use Rattle.step_book.specs.History.{message}
use Rattle.step_book.specs.Names.{IsNameOf}
use Rattle.step_book.specs.Trace.{steps}
use Rattle.step_book.specs.Work.{sent_name}
use Rattle.step_book.specs.World.{World, nodes_of}
use Rattle.run_events.specs.Events.{of_event}
use Rattle.run_events.specs.declared.event.Event.{Event}
use Rattle.run_events.specs.declared.name.Name.{Name}

-- step number x is one of the sends of round r
abbrev pub sends_in : World → ℕ → ℕ → Bool
sends_in w r x = nat_le (w.start r) x && nat_lt x (w.start r + nodes_of w)

-- the name of what node i sends at its step number x, if that is a send of one of the first
-- rounds
abbrev pub slot_by : World → ℕ → ℕ → ℕ → Option Name
slot_by w i x zero = None
slot_by w i x (suc q) =
    if sends_in w (suc q) x then Some (sent_name i (x - w.start (suc q)) (suc q))
    else slot_by w i x q

-- a message is sent in this slot
abbrev pub is_said : World → List Event → Option Name → Bool
is_said w t None = false
is_said w t (Some n) = is_some (message w t n)

-- the event sends a message
abbrev pub sends : World → Event → List Event → Bool
sends w e past =
    of_event (λ i. is_said w past (slot_by w i (steps i past) w.rounds)) (λ n. false) e

-- how many messages were sent
unfoldable pub sent : World → List Event → ℕ
sent w [] = 0
sent w (e ∷ past) = if sends w e past then sent w past + 1 else sent w past

-- the serial of a message: how many were sent before it
unfoldable pub serial : World → List Event → Name → ℕ
serial w [] n = 0
serial w (e ∷ past) n = if is_slot w n e past then sent w past else serial w past n

-- the sender took the message's slot, and wasn't silent in it
pub record IsSent (w : World) (t : List Event) (n : Name) : Type 0 where
  pub slot : w.start n.round + n.to < steps n.from t
  pub said : is_some (message w t n) ≡ true

-- the name is of copy 0 of a message of the run that was sent, with this serial
pub record HasSerial (w : World) (t : List Event) (k : ℕ) (n : Name) : Type 0 where
  pub named : IsNameOf (nodes_of w) w.rounds n
  pub first : n.copy ≡ 0
  pub made : IsSent w t n
  pub place : serial w t n ≡ k

-- the messages in the order in which they were sent: each stands at the place that is its serial,
-- by the name of its copy 0
pub record AreSent (w : World) (t : List Event) (names : List Name) : Type 0 where
  pub counted : length names ≡ sent w t
  pub each : (k : ℕ) (n : Name) → (slice_get names k ≡ Some n) ↔ HasSerial w t k n
