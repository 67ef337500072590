-- The plan whose rounds grow by one step each: where a round starts.
use Rattle.std.specs.Prelude.{ℕ, ◌+◌, ◌-◌, ◌*◌, ◌/◌}
use Rattle.slot_plans.specs.declared.growing.Growing.{Growing}

-- how many nodes the plan has
abbrev pub growing_nodes : Growing → ℕ
growing_nodes p = p.nodes

-- where a round starts: the rounds before it have N + 1, N + 2 .. steps
abbrev pub growing_start : ℕ → ℕ → ℕ
growing_start nodes r = (r - 1) * nodes + r * (r - 1) / 2
