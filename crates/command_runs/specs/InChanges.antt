-- What words and lines change in a run in lockstep.
use Rattle.std.specs.Prelude.{◌≡◌, ◌+◌, ◌++◌, ◌<◌, ℕ, All, List, None, Option, Some, map}
use Rattle.std.specs.Prelude.{false, if◌then◌else◌, nat_eq, nat_lt}
use Rattle.std.specs.List.{filter_map, list_any, range_with_len}
use Rattle.command_runs.specs.declared.lockstep.Pacing.{Pacing}
use Rattle.command_words.specs.declared.changes.NodeStop.{NodeStop}
use Rattle.command_words.specs.declared.changes.OwnDelay.{OwnDelay}
use Rattle.lockstep_runs.specs.Changes.{IsFitDelay}
use Rattle.lockstep_runs.specs.declared.changes.Changes.{Changes}
use Rattle.lockstep_runs.specs.declared.changes.MessageDelay.{MessageDelay}
use Rattle.omission_texts.specs.Meaning.{IsTableOf}
use Rattle.omission_texts.specs.Stops.{steps_of}
use Rattle.omission_texts.specs.declared.line.OmissionLine.{OmissionLine}
use Rattle.policies.specs.declared.bounded.Bounded.{Bounded}
use Rattle.round_meaning.specs.declared.setup.Setup.{Setup}
use Rattle.schedule_text.specs.declared.pace.Stop.{Stop}

-- what the words say of a run in lockstep: the correct nodes, the bound with its tables, the number
-- of ticks if it's told, the stops of nodes and the delays of single messages
pub record Terms : Type 0 where
  pub correct : List ℕ
  pub bounded : Bounded
  pub ticks : Option ℕ
  pub stops : List NodeStop
  pub delays : List OwnDelay

-- the terms that are handed to a call
abbrev pub terms_of : Pacing → Terms
terms_of pacing = record {
  correct = pacing.correct.now;
  bounded = pacing.bounded.now;
  ticks = pacing.ticks;
  stops = pacing.stops.now;
  delays = pacing.delays.now;
}

-- a node that takes no step from tick C on takes C steps
abbrev pub word_stop : NodeStop → Stop
word_stop stop = record { node = stop.node; steps = stop.tick }

abbrev pub word_delay : OwnDelay → MessageDelay
word_delay d = record {
  sender = d.sender;
  receiver = d.receiver;
  round = d.round;
  delay = d.delay;
}

-- the stop of node i where it takes fewer steps than all rounds have
abbrev pub stop_below : (all : ℕ) → (i steps : ℕ) → Option Stop
stop_below all i steps =
    if nat_lt steps all then Some (record { node = i; steps = steps }) else None

-- the stop of node i where lines have it crash
abbrev pub crash_stop : (start : ℕ → ℕ) → Setup → List OmissionLine → ℕ → Option Stop
crash_stop start s ls i = stop_below (start (s.rounds + 1)) i (steps_of s.nodes start s ls i)

-- the stops of the nodes that lines have crash
abbrev pub crash_stops : (start : ℕ → ℕ) → Setup → List OmissionLine → List Stop
crash_stops start s ls = filter_map (crash_stop start s ls) (range_with_len 0 s.nodes)

-- the stops of a run: those of the lines, and then those of the words, so that these hold for a
-- node that has both
abbrev pub stops_by : (start : ℕ → ℕ) → Setup → List OmissionLine → List NodeStop → List Stop
stops_by start s ls stops = crash_stops start s ls ++ map word_stop stops

-- the changes are those of the lines and the words
pub record AreChanges (start : ℕ → ℕ) (s : Setup) (ls : List OmissionLine) (t : Terms)
    (c : Changes) : Type 0 where
  pub stops : c.stops.items ≡ stops_by start s ls t.stops
  pub omissions : IsTableOf s ls c.omissions
  pub delays : c.delays.items ≡ map word_delay t.delays

-- the stop is of a node of the run that isn't in the list of the correct ones
pub record IsOfFaulty (s : Setup) (correct : List ℕ) (stop : Stop) : Type 0 where
  pub node : stop.node < s.nodes
  pub faulty : list_any (nat_eq stop.node) correct ≡ false

-- each stop is of a faulty node of the run, and each delay of a message of the run
pub record AreFitChanges (start : ℕ → ℕ) (s : Setup) (ls : List OmissionLine) (t : Terms)
    : Type 0 where
  pub stops : All (IsOfFaulty s t.correct) (stops_by start s ls t.stops)
  pub delays : All (IsFitDelay s) (map word_delay t.delays)
