-- The plan whose rounds all have one length: where a round starts.
use Rattle.std.specs.Prelude.{ℕ, ◌+◌, ◌-◌, ◌*◌}
use Rattle.slot_plans.specs.declared.known.Known.{Known}

-- how many nodes the plan has
abbrev pub known_nodes : Known → ℕ
known_nodes p = p.nodes

-- the plan's bound on the delay
abbrev pub known_delta : Known → ℕ
known_delta p = p.delta

-- where a round starts: each round before it has N + Δ steps
abbrev pub known_start : ℕ → ℕ → ℕ → ℕ
known_start nodes delta r = (r - 1) * (nodes + delta)
