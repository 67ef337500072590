-- A turn of the network: questions to its policy, each after it has learnt what was sent.
use Rattle.std.specs.Prelude.{◌≡◌, ℕ, zero, suc, ◌-◌, ◌^◌, ◌++◌, Bool, List, [], drop, length, min}
use Rattle.std.specs.Prelude.{Option, None, Some}
use Rattle.adversary.specs.Asking.{Chooses}
use Rattle.locked_buffers.specs.Commits.{told_with}
use Rattle.locked_buffers.specs.Seats.{Told}
use Rattle.policies.specs.declared.policy.Choice.{Choice}
use Rattle.schedule_text.specs.declared.pace.Pace.{Pace}
use Rattle.schedule_text.specs.declared.pace.Pace.TheVariants.{Free, Ticks}
use Rattle.step_book.specs.Log.{Recorded, history, world_of}
use Rattle.step_book.specs.Serials.{AreSent}
use Rattle.run_events.specs.declared.event.Event.{Event}
use Rattle.run_events.specs.declared.in_flight.InFlight.{InFlight}
use Rattle.run_events.specs.declared.name.Name.{Name}
use Rattle.node_threads.specs.Choices.{ComesToInOne}
use Rattle.node_threads.specs.Flights.{IsNoted, known_with, sent_after}

-- what the network goes by: what is in flight, how many messages it knows and what it was told
pub record Known : Type 0 where
  pub flight : List InFlight
  pub count : ℕ
  pub told : Told

-- what the network goes by before its first turn: it knows of no message, and was told nothing
abbrev pub nothing_known : Known
nothing_known = record { flight = []; count = 0; told = record { events = []; answers = [] } }

-- it learnt of the messages that were sent by the events of some record and that it didn't know,
-- which are in flight behind the others, and how many events that has
pub record HasLearnt {P : Type 0} (starts : P → ℕ → ℕ) (start : ℕ → ℕ) (old new : Known)
    (events : ℕ) : Type 0 where
  pub one : Recorded P
  pub messages : List Name
  pub are : AreSent (world_of (starts one.plan) one.log) (history one.log) messages
  pub counted : events ≡ length one.log.trace
  pub flight : new.flight ≡ old.flight ++ sent_after start old.count (drop old.count messages)
  pub count : new.count ≡ known_with old.count (drop old.count messages)
  pub told : new.told ≡ old.told

-- the time that a policy is told: the tick, or if there is none how many events there are
abbrev pub time_of : (tick : Option ℕ) → (events : ℕ) → ℕ
time_of None events = min events (2 ^ 32 - 1)
time_of (Some tick) events = tick

-- the policy was asked once, and its answer came to this event, or to none
pub record IsAskedOnce {Q P : Type 0} (chooses : Chooses Q) (starts : P → ℕ → ℕ) (now : ℕ)
    (flight : List InFlight) (before after : Q) (answer : Option Choice) (o : Option Event)
    : Type 0 where
  pub chosen : chooses before now flight answer after
  pub comes : ComesToInOne starts flight answer o

-- the policy was asked once, and it chose what came to this event; or its answer came to none
abbrev pub IsAskedFor : {Q P : Type 0} → Chooses Q → (P → ℕ → ℕ) → (now : ℕ) → List InFlight
    → (before after : Q) → Option (Choice × Event) → Type 0
IsAskedFor chooses starts now flight before after (Some ce) =
    IsAskedOnce chooses starts now flight before after (Some ce.0) (Some ce.1)
IsAskedFor chooses starts now flight before after None =
    (answer : Option Choice) × IsAskedOnce chooses starts now flight before after answer None

-- the event was made, and this was the answer to it; what is in flight after it is noted
pub record IsDone (choice : Choice) (e : Event) (answer : Bool) (old new : Known) : Type 0 where
  pub flight : IsNoted choice e old.flight new.flight
  pub count : new.count ≡ old.count
  pub told : new.told ≡ told_with old.told e answer

-- the policy was asked this many times, each time after the network had learnt what was sent; and
-- what it chose was done
unfoldable pub GoesOnInTurn : {Q P : Type 0} → Chooses Q → (P → ℕ → ℕ) → (start : ℕ → ℕ)
    → (tick : Option ℕ) → Q → Known → ℕ → Q → Known → Type 0
GoesOnInTurn chooses starts start tick q v zero r u = (r ≡ q) × (u ≡ v)
GoesOnInTurn {Q} chooses starts start tick q v (suc k) r u =
    (p : Q) × (w : Known) × (learnt : Known) × (events : ℕ) × (c : Choice) × (e : Event)
    × (b : Bool) × GoesOnInTurn chooses starts start tick q v k p w
    × HasLearnt starts start w learnt events
    × IsAskedOnce chooses starts (time_of tick events) learnt.flight p r (Some c) (Some e)
    × IsDone c e b learnt u

-- a turn: the network learnt what was sent and asked its policy, until no event came of it
pub record IsTurn {Q P : Type 0} (chooses : Chooses Q) (starts : P → ℕ → ℕ) (start : ℕ → ℕ)
    (tick : Option ℕ) (q : Q) (old : Known) (r : Q) (new : Known) : Type 0 where
  pub times : ℕ
  pub last : Q
  pub reached : Known
  pub goes_on : GoesOnInTurn chooses starts start tick q old times last reached
  pub events : ℕ
  pub learns : HasLearnt starts start reached new events
  pub answer : Option Choice
  pub ends : IsAskedOnce chooses starts (time_of tick events) new.flight last r answer None

-- the tick of a turn, if there are ticks
abbrev pub tick_in : Pace → ℕ → Option ℕ
tick_in Free tick = None
tick_in Ticks tick = Some tick

-- so many turns, one after another; a tick for each, as long as the count has room
unfoldable pub GoesOnByTurns : {Q P : Type 0} → Chooses Q → (P → ℕ → ℕ) → (start : ℕ → ℕ) → Pace
    → Q → Known → ℕ → Q → Known → Type 0
GoesOnByTurns chooses starts start pace q v zero r u = (r ≡ q) × (u ≡ v)
GoesOnByTurns {Q} chooses starts start pace q v (suc k) r u =
    (p : Q) × (w : Known) × GoesOnByTurns chooses starts start pace q v k p w
    × IsTurn chooses starts start (tick_in pace (min k (2 ^ 32 - 1))) p w r u

-- the network has taken all its turns, from these to those
pub record RunsByTurns {Q P : Type 0} (chooses : Chooses Q) (starts : P → ℕ → ℕ) (start : ℕ → ℕ)
    (pace : Pace) (q : Q) (old : Known) (r : Q) (new : Known) : Type 0 where
  pub turns : ℕ
  pub goes_on : GoesOnByTurns chooses starts start pace q old turns r new

-- the network has taken all its turns, and this is what it was told in them
abbrev pub HasRun : {Q P : Type 0} → Chooses Q → (P → ℕ → ℕ) → (start : ℕ → ℕ) → Pace → Q → Known
    → Told → Type 0
HasRun {Q} chooses starts start pace q old told =
    (r : Q) × (new : Known) × RunsByTurns chooses starts start pace q old r new × (new.told ≡ told)
