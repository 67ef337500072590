-- What a program of the library may be asked for with.
use Rattle.std.specs.Prelude.{ℕ, ◌+◌, ◌*◌, ◌<◌, ◌≤◌}
use Rattle.round_lang.specs.Limits.{max_values}
use Rattle.run_events.specs.Limits.{max_nodes}
use Rattle.round_meaning.specs.Setups.{max_faults}

-- K is 1 to 64
pub record IsCount (values : ℕ) : Type 0 where
  pub some : 1 ≤ values
  pub few : values ≤ max_values

-- K is 1 to 64, and the nodes and faults are within their limits
pub record IsWithin (nodes faults values : ℕ) : Type 0 where
  pub count : IsCount values
  pub some_node : 1 ≤ nodes
  pub few_nodes : nodes ≤ max_nodes
  pub few_faults : faults ≤ max_faults

-- half of the nodes or more may fail
abbrev pub IsTooFew : (nodes faults : ℕ) → Type 0
IsTooFew nodes faults = nodes < 2 * faults + 1
