-- How many steps a node takes by what lines say.
use Rattle.std.specs.Prelude.{ℕ, ◌+◌, ◌==◌, if◌then◌else◌, nat_le, min, fold, List, Option, Some}
use Rattle.std.specs.Prelude.{None}
use Rattle.std.specs.List.{filter_map}
use Rattle.round_meaning.specs.declared.setup.Setup.{Setup}
use Rattle.omission_texts.specs.declared.line.OmissionLine.{OmissionLine}
use Rattle.omission_texts.specs.declared.line.OmissionLine.TheVariants.{Omit, Cut, Crash}

-- the round in which the line has node i crash, if it does
abbrev pub crash_in : ℕ → OmissionLine → Option ℕ
crash_in i (Omit receiver rs sender) = None
crash_in i (Cut list rs) = None
crash_in i (Crash node round reached) = if node == i then Some round else None

-- the least round in which a line has node i crash, or the one past the run's last
abbrev pub crash_round : Setup → List OmissionLine → ℕ → ℕ
crash_round s ls i = fold min (s.rounds + 1) (filter_map (crash_in i) ls)

-- how many steps node i takes, if a round is so many sends, and begins at this step: all of the
-- run; or if it crashes in a round, those before that round and the sends of it
abbrev pub steps_of : (nodes : ℕ) → (start : ℕ → ℕ) → Setup → List OmissionLine → ℕ → ℕ
steps_of nodes start s ls i =
    if nat_le (crash_round s ls i) s.rounds then start (crash_round s ls i) + nodes
    else start (s.rounds + 1)
