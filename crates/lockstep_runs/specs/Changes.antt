-- Crashes, omissions and delays of single messages in a run in lockstep.
use Rattle.std.specs.Prelude.{◌≡◌, ℕ, ◌+◌, ◌<◌, ◌≤◌, max, Bool, true, false, ◌&&◌, ◌==◌, All, List}
use Rattle.std.specs.Prelude.{[], ◌∷◌, Option, Some, None, IfSome, if◌then◌else◌}
use Rattle.policies.specs.declared.bounded.Bounded.{Bounded}
use Rattle.policies.specs.Policies.{due_at}
use Rattle.policies.specs.Tables.{round_entry}
use Rattle.round_meaning.specs.declared.omissions.Omission.{Omission}
use Rattle.round_meaning.specs.declared.setup.Setup.{Setup}
use Rattle.round_meaning.specs.Nodes.{has_node}
use Rattle.round_meaning.specs.Omissions.{is_omitted}
use Rattle.schedule_text.specs.declared.pace.Stop.{Stop}
use Rattle.run_events.specs.declared.in_flight.InFlight.{InFlight}
use Rattle.run_events.specs.declared.name.Name.{Name}
use Rattle.lockstep_runs.specs.Timing.{Timing}
use Rattle.lockstep_runs.specs.declared.changes.Changes.{Changes}
use Rattle.lockstep_runs.specs.declared.changes.MessageDelay.{MessageDelay}

-- the number of steps of the last stop that is node i's, else this one
abbrev pub stop_or : ℕ → List Stop → ℕ → ℕ
stop_or found [] i = found
stop_or found (stop ∷ stops) i = stop_or (if stop.node == i then stop.steps else found) stops i

-- after how many steps node i stops: a correct node doesn't, one with a stop does as the last of
-- its stops says, and any other takes no step
abbrev pub stop_of : List Stop → ℕ → ℕ → Option ℕ
stop_of stops correct i = if has_node correct i then None else Some (stop_or 0 stops i)

-- the delay is that of this message
abbrev pub is_of : MessageDelay → Name → Bool
is_of d n = d.sender == n.from && (d.receiver == n.to && d.round == n.round)

-- the last of these delays that is this message's, else this one
abbrev pub delay_or : Option ℕ → List MessageDelay → Name → Option ℕ
delay_or found [] n = found
delay_or found (d ∷ ds) n = delay_or (if is_of d n then Some d.delay else found) ds n

-- a message's own delay, if it has one
abbrev pub own_delay : List MessageDelay → Name → Option ℕ
own_delay ds n = delay_or None ds n

-- the tick in which a message is due: by its own delay, of which 0 counts as 1, or else by the
-- table
abbrev pub due_by : Bounded → Option ℕ → InFlight → ℕ
due_by b None m = due_at b m
due_by b (Some delay) m = m.sent_at + max delay 1

-- the timing by the tables, for these correct nodes and with these changes
abbrev pub timing_of :
    Bounded → List Stop → List Omission → List MessageDelay → (correct : ℕ) → Timing
timing_of b stops omissions delays correct = record {
  stop = stop_of stops correct;
  first = λ tick. round_entry b.orders tick 0;
  omits = λ n. is_omitted omissions n.to n.round n.from;
  due = λ m. due_by b (own_delay delays m.name) m;
}

-- the same of all changes
abbrev pub timing_by : Bounded → Changes → (correct : ℕ) → Timing
timing_by b c correct = timing_of b c.stops.items c.omissions c.delays.items correct

-- the stop is of a node of the run that isn't correct
pub record IsFitStop (s : Setup) (correct : ℕ) (stop : Stop) : Type 0 where
  pub node : stop.node < s.nodes
  pub faulty : has_node correct stop.node ≡ false

-- the delay is of a message of the run
pub record IsFitDelay (s : Setup) (d : MessageDelay) : Type 0 where
  pub sender : d.sender < s.nodes
  pub receiver : d.receiver < s.nodes
  pub first : 0 < d.round
  pub last : d.round ≤ s.rounds

-- each stop and each delay is one that a run with these correct nodes may have
pub record AreFit (s : Setup) (correct : ℕ) (c : Changes) : Type 0 where
  pub stops : All (IsFitStop s correct) c.stops.items
  pub delays : All (IsFitDelay s) c.delays.items

-- no message between correct nodes is omitted, or has a delay of its own above this bound
pub record SparesCorrect (correct delta : ℕ) (c : Changes) : Type 0 where
  pub kept : (i r j : ℕ) → has_node correct i ≡ true → has_node correct j ≡ true
      → is_omitted c.omissions i r j ≡ false
  pub prompt : (n : Name) → has_node correct n.from ≡ true → has_node correct n.to ≡ true
      → IfSome (own_delay c.delays.items n) (λ delay. delay ≤ delta)
