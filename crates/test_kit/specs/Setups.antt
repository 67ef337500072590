-- Setups, and sets of nodes.
use Rattle.std.specs.Prelude.{◌≡◌, ◌<◌, ℕ, List, length, min, nat_eq}
use Rattle.std.specs.List.{list_any}
use Rattle.round_lang.specs.Sets.{is_in}
use Rattle.round_meaning.specs.declared.setup.Setup.{Setup}
use Rattle.run_events.specs.Limits.{max_nodes}
use Rattle.test_kit.specs.Reading.{IsListText, Writes}

-- of the numbers below 64 the set has just those that are listed
abbrev pub HasJust : List ℕ → ℕ → Type 0
HasJust list set = (k : ℕ) → k < 64 → is_in set k ≡ list_any (nat_eq k) list

-- a setup without faults that these texts give, with a node for each input, up to the most nodes
pub record IsFaultless (numbers last : List ℕ) (s : Setup) : Type 0 where
  pub inputs : IsListText numbers s.inputs
  pub rounds : Writes last s.rounds
  pub nodes : s.nodes ≡ min (length s.inputs) max_nodes
  pub faults : s.faults ≡ 0
