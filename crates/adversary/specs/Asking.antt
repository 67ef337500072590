-- Runs in which a policy decides what the network does.
use Rattle.std.specs.Prelude.{◌≡◌, ℕ, zero, suc, ◌<◌, ◌≤◌, ◌⊎◌, ⊤, true, List, [], ◌∷◌, ◌++◌}
use Rattle.std.specs.Prelude.{length, slice_index_or, Option, None, Some, if◌then◌else◌}
use Rattle.adversary.specs.Driving.{IsOneMore}
use Rattle.policies.specs.declared.policy.Choice.{Choice}
use Rattle.policies.specs.declared.policy.Choice.TheVariants as choice
use Rattle.round_meaning.specs.declared.setup.Setup.{Setup}
use Rattle.round_meaning.specs.Nodes.{has_node}
use Rattle.round_meaning.specs.Setups.{IsLawful}
use Rattle.step_book.specs.Flight.{IsFlight}
use Rattle.step_book.specs.Log.{HasNoCopy, IsLeastCopy, Log}
use Rattle.run_events.specs.declared.event.Event.{Event}
use Rattle.run_events.specs.declared.event.Event.TheVariants.{Step, Release, Drop, Copy}
use Rattle.run_events.specs.declared.in_flight.InFlight.{InFlight}
use Rattle.run_events.specs.declared.name.Name.{Name}

-- the copy at this place of those in flight has this name
abbrev pub IsAtPlace : List InFlight → ℕ → Name → Type 0
IsAtPlace flight k n = (k < length flight) × ((d : InFlight) → (slice_index_or flight k d).name ≡ n)

-- the event that a choice comes to
abbrev pub ComesTo : (ℕ → ℕ) → Log → List InFlight → Choice → Event → Type 0
ComesTo start v flight (choice.Release k) (Release n) = IsAtPlace flight k n
ComesTo start v flight (choice.Drop k) (Drop n) = IsAtPlace flight k n
ComesTo start v flight (choice.Copy k) (Copy m) =
    (n : Name) × IsAtPlace flight k n × IsLeastCopy start v n m.copy
    × (m ≡ record n { copy = m.copy })
ComesTo start v flight _ _ = ⊥

-- a choice that counts as none: its place is past the end, or there is no copy to make
abbrev pub CountsAsNone : (ℕ → ℕ) → Log → List InFlight → Choice → Type 0
CountsAsNone start v flight (choice.Release k) = length flight ≤ k
CountsAsNone start v flight (choice.Drop k) = length flight ≤ k
CountsAsNone start v flight (choice.Copy k) =
    (n : Name) → IsAtPlace flight k n → HasNoCopy start v n

-- what an answer comes to
abbrev pub AnswerComesTo : (ℕ → ℕ) → Log → List InFlight → Option Choice → Option Event → Type 0
AnswerComesTo start v flight None None = ⊤
AnswerComesTo start v flight None (Some e) = ⊥
AnswerComesTo start v flight (Some c) None = CountsAsNone start v flight c
AnswerComesTo start v flight (Some c) (Some e) = ComesTo start v flight c e

-- how a policy chooses: at a tick, over what is in flight, an answer, and what it is after that
abbrev pub Chooses : Type 0 → Type 1
Chooses Q = Q → ℕ → List InFlight → Option Choice → Q → Type 0

-- the policy was asked once, and this event came of it, or none
pub record IsAsked {Q : Type 0} (chooses : Chooses Q) (start : ℕ → ℕ) (now : ℕ) (v : Log)
    (before after : Q) (o : Option Event) : Type 0 where
  pub flight : List InFlight
  pub flies : IsFlight start v flight
  pub answer : Option Choice
  pub chosen : chooses before now flight answer after
  pub comes : AnswerComesTo start v flight answer o

-- the policy was asked so many times in a tick, each time an event came of it, and the run and the
-- policy went on from these to those
unfoldable pub GoesOnAsked : {Q : Type 0} → Chooses Q → (ℕ → ℕ) → ℕ → Q → Log → ℕ → Q → Log → Type 0
GoesOnAsked chooses start now q v zero r u = (r ≡ q) × (u ≡ v)
GoesOnAsked {Q} chooses start now q v (suc k) r u =
    (p : Q) × (w : Log) × (e : Event) × GoesOnAsked chooses start now q v k p w
    × IsAsked chooses start now w p r (Some e) × IsOneMore w u e

-- how often a policy is asked in a tick at most: no memory has so many events
abbrev pub most_asked : ℕ
most_asked = 4294967295

-- in a tick the policy was asked until no event came of it
pub record IsAskedOut {Q : Type 0} (chooses : Chooses Q) (start : ℕ → ℕ) (now : ℕ) (q : Q) (v : Log)
    (r : Q) (u : Log) : Type 0 where
  pub times : ℕ
  pub last : Q
  pub goes_on : GoesOnAsked chooses start now q v times last u
  pub ends : IsAsked chooses start now u last r None ⊎ ((times ≡ most_asked) × (r ≡ last))

-- a step of each correct node below this one, in rising order
unfoldable pub steps_below : ℕ → ℕ → List Event
steps_below correct zero = []
steps_below correct (suc i) =
    steps_below correct i ++ (if has_node correct i then Step i ∷ [] else [])

-- the run went on by a step of each correct node
pub record HasStepped (correct : ℕ) (old new : Log) : Type 0 where
  pub program : new.program ≡ old.program
  pub setup : new.setup ≡ old.setup
  pub trace : new.trace ≡ old.trace ++ steps_below correct old.setup.nodes

-- so many ticks: in each, first the policy is asked, and then the correct nodes step
unfoldable pub RunsAsked : {Q : Type 0} → Chooses Q → (ℕ → ℕ) → ℕ → Q → Log → ℕ → Q → Log → Type 0
RunsAsked chooses start correct q v zero r u = (r ≡ q) × (u ≡ v)
RunsAsked {Q} chooses start correct q v (suc t) r u =
    (p : Q) × (w x : Log) × RunsAsked chooses start correct q v t p w
    × IsAskedOut chooses start t p w r x × HasStepped correct x u

-- the setup is lawful, and the correct nodes are nodes of it
pub record IsFitFor (values : ℕ) (s : Setup) (correct : ℕ) : Type 0 where
  pub lawful : IsLawful values s
  pub nodes : (i : ℕ) → has_node correct i ≡ true → i < s.nodes
