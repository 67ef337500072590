-- Sets of nodes, as numbers whose bit i stands for node i.
use Rattle.std.specs.Prelude.{ℕ, Bool, ◌&&◌, nat_lt}
use Rattle.round_lang.specs.Sets.{is_in}

-- node i is a member
abbrev pub has_node : ℕ → ℕ → Bool
has_node s i = nat_lt i 64 && is_in s i
