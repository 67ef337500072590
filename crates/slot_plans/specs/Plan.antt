-- What a plan is, and which of its rounds are clear.
use Rattle.std.specs.Prelude.{◌≡◌, ℕ, ◌+◌, ◌^◌, ◌<◌, ◌≤◌, Option, Some, None}
use Rattle.run_events.specs.Limits.{max_delta, max_nodes, max_rounds}

-- a number of nodes that a plan can have
abbrev pub IsNodeCount : ℕ → Type 0
IsNodeCount n = (1 ≤ n) × (n ≤ max_nodes)

-- a bound on the delay that a plan can have
abbrev pub IsDelta : ℕ → Type 0
IsDelta delta = (1 ≤ delta) × (delta ≤ max_delta)

-- a round, counted from 1
abbrev pub IsRound : ℕ → Type 0
IsRound r = (1 ≤ r) × (r ≤ max_rounds)

-- each round is a send slot for each node and then receive steps, and the next round follows it;
-- the steps of all rounds, and four more, can be counted with 32 bits
pub record PlanLaws (nodes : ℕ) (receives start : ℕ → ℕ) : Type 0 where
  pub some_node : 1 ≤ nodes
  pub few_nodes : nodes ≤ max_nodes
  pub some_receive : (r : ℕ) → 1 ≤ r → 1 ≤ receives r
  pub receives_rise : (r : ℕ) → 1 ≤ r → receives r ≤ receives (r + 1)
  pub first_start : start 1 ≡ 0
  pub next_start : (r : ℕ) → 1 ≤ r → start (r + 1) ≡ start r + nodes + receives r
  pub few_steps : 4 + start (max_rounds + 1) < 2 ^ 32

-- the round starts at the global stabilization time or later, and lasts for the delay
pub record IsClear (receives start : ℕ → ℕ) (delta gst r : ℕ) : Type 0 where
  pub stable : gst ≤ start r
  pub lasts : delta ≤ receives r

-- the first clear round, or none if no round is clear
abbrev pub IsClearRound : (ℕ → ℕ) → (ℕ → ℕ) → ℕ → ℕ → Option ℕ → Type 0
IsClearRound receives start delta gst (Some r) =
    IsRound r × IsClear receives start delta gst r
    × ((s : ℕ) → 1 ≤ s → s < r → ¬ IsClear receives start delta gst s)
IsClearRound receives start delta gst None =
    (s : ℕ) → IsRound s → ¬ IsClear receives start delta gst s

-- under each plan, the rounds after a clear one are clear
abbrev pub ClearRoundsLast : Type 0
ClearRoundsLast =
    (nodes : ℕ) (receives start : ℕ → ℕ) → PlanLaws nodes receives start
    → (delta gst r s : ℕ) → 1 ≤ r → r ≤ s
    → IsClear receives start delta gst r → IsClear receives start delta gst s
