-- When a run may be asked for.
use Rattle.std.specs.Prelude.{◌≡◌, ℕ, ◌<◌, ◌≤◌, All, length}
use Rattle.run_events.specs.Limits.{max_nodes, max_rounds}
use Rattle.round_meaning.specs.declared.setup.Setup.{Setup}

abbrev pub max_faults : ℕ
max_faults = 15

-- the numbers are within their limits, and each node has an input
pub record IsSetup (s : Setup) : Type 0 where
  pub some_node : 0 < s.nodes
  pub few_nodes : s.nodes ≤ max_nodes
  pub few_faults : s.faults ≤ max_faults
  pub some_round : 0 < s.rounds
  pub few_rounds : s.rounds ≤ max_rounds
  pub inputs : length s.inputs ≡ s.nodes

-- the numbers are within their limits, and each node has an input, which is below K
pub record IsLawful (values : ℕ) (s : Setup) : Type 0 where
  pub sized : IsSetup s
  pub inputs : All (λ x. x < values) s.inputs
