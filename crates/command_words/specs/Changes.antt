-- The options that change a run in lockstep: stops, omissions and delays of single messages.
use Rattle.std.specs.Prelude.{◌≡◌, ◌≢◌, ◌⊎◌, ◌∷◌, [], ℕ, List, codes, option_map, unwrap_or, ⊤}
use Rattle.clap.specs.Words.{Row, Text, all_of, first_of}
use Rattle.command_words.specs.Values.{AreNumbers}
use Rattle.command_words.specs.declared.changes.Changes.{Changes}
use Rattle.command_words.specs.declared.changes.NodeStop.{NodeStop}
use Rattle.command_words.specs.declared.changes.OwnDelay.{OwnDelay}
use Rattle.command_words.specs.declared.words.WordsFault.{WordsFault}
use Rattle.command_words.specs.declared.words.WordsFault.TheVariants as fault

-- all values of an option, of each of its uses in turn
abbrev pub values_of : Text → List Row → List Text
values_of name rows = unwrap_or (all_of name rows) []

-- the numbers of each stop in turn: the node and the tick
abbrev pub numbers_of_stops : List NodeStop → List ℕ
numbers_of_stops [] = []
numbers_of_stops (stop ∷ stops) = stop.node ∷ stop.tick ∷ numbers_of_stops stops

-- the numbers of each delay in turn: the sender, the receiver, the round and the delay
abbrev pub numbers_of_delays : List OwnDelay → List ℕ
numbers_of_delays [] = []
numbers_of_delays (d ∷ delays) =
    d.sender ∷ d.receiver ∷ d.round ∷ d.delay ∷ numbers_of_delays delays

-- the values of `--stop` are the numbers of these stops
abbrev pub GivesStops : List Row → List NodeStop → Type 0
GivesStops rows stops = AreNumbers (values_of (codes "stop") rows) (numbers_of_stops stops)

-- the values of `--delay` are the numbers of these delays
abbrev pub GivesDelays : List Row → List OwnDelay → Type 0
GivesDelays rows delays = AreNumbers (values_of (codes "delay") rows) (numbers_of_delays delays)

-- what the options say
pub record GivesChanges (rows : List Row) (c : Changes) : Type 0 where
  pub stops : GivesStops rows c.stops.items
  pub omissions : first_of (codes "omissions") rows ≡ option_map (λ name. name.now) c.omissions
  pub delays : GivesDelays rows c.delays.items

-- the fault of such an option, if this is why its values aren't read: that cause, or there was
-- no memory for what is read
abbrev pub FailsAs : Type 0 → WordsFault → Type 0
FailsAs Cause fault.Change = Cause
FailsAs Cause fault.NoMemory = ⊤
FailsAs Cause _ = ⊥

-- the texts aren't those of numbers
abbrev pub IsNoNumbers : List Text → WordsFault → Type 0
IsNoNumbers texts fault = FailsAs ((ns : List ℕ) → ¬ (AreNumbers texts ns)) fault

-- the numbers are those of no stops
abbrev pub IsNoStops : List ℕ → WordsFault → Type 0
IsNoStops numbers fault =
    FailsAs ((stops : List NodeStop) → numbers_of_stops stops ≢ numbers) fault

-- the numbers are those of no delays
abbrev pub IsNoDelays : List ℕ → WordsFault → Type 0
IsNoDelays numbers fault =
    FailsAs ((delays : List OwnDelay) → numbers_of_delays delays ≢ numbers) fault

-- the fault of `--stop`: its values are the numbers of no stops
abbrev pub FailsByStops : List Row → WordsFault → Type 0
FailsByStops rows fault = FailsAs ((stops : List NodeStop) → ¬ (GivesStops rows stops)) fault

-- the fault of `--delay`: its values are the numbers of no delays
abbrev pub FailsByDelays : List Row → WordsFault → Type 0
FailsByDelays rows fault = FailsAs ((delays : List OwnDelay) → ¬ (GivesDelays rows delays)) fault

-- the fault of an option that changes the run
abbrev pub FailsByChanges : List Row → WordsFault → Type 0
FailsByChanges rows fault = FailsByStops rows fault ⊎ FailsByDelays rows fault
