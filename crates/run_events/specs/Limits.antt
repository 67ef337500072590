-- How large a run may be.
use Rattle.std.specs.Prelude.{ℕ}

-- the most nodes
abbrev pub max_nodes : ℕ
max_nodes = 16

-- the last round
abbrev pub max_rounds : ℕ
max_rounds = 4096

-- the greatest number of a copy
abbrev pub max_copy : ℕ
max_copy = 3

-- the largest bound Δ on the delay, in steps, if it is known
abbrev pub max_delta : ℕ
max_delta = 1024
