-- An algorithm with the number of its rounds and the plan of its steps.
use Rattle.std.specs.Prelude.{◌≡◌, ℕ, zero, suc, ◌+◌, ◌-◌, ◌<◌, Bool, false, ◌&&◌, ◌||◌, nat_le}
use Rattle.std.specs.Prelude.{nat_lt}
use Rattle.round_meaning.specs.Rounds.{Algorithm}
use Rattle.step_machine.specs.Nodes.{ahead}

-- what a run is of: an algorithm, the last round, and the step at which each round starts
pub record World : Type 0 where
  pub algorithm : Algorithm
  pub rounds : ℕ
  pub start : ℕ → ℕ

abbrev pub nodes_of : World → ℕ
nodes_of w = w.algorithm.nodes

-- what every plan keeps: a round has a send for each node and a receive at least
pub record IsPlan (w : World) : Type 0 where
  pub first : w.start 1 ≡ 0
  pub next : (r : ℕ) → 0 < r → w.start r + nodes_of w < w.start (r + 1)

-- the first of the rounds in which a message of round r is kept: r - 3, or round 1
abbrev pub earliest : ℕ → ℕ
earliest r = r - (ahead + 1) + 1

-- step number x lies in one of the rounds in which a message of round r is kept
abbrev pub lies_near : World → ℕ → ℕ → Bool
lies_near w r x = nat_le (w.start (earliest r)) x && nat_lt x (w.start (r + 1))

-- step number x is a receive of round r
abbrev pub receives_in : World → ℕ → ℕ → Bool
receives_in w r x = nat_le (w.start r + nodes_of w) x && nat_lt x (w.start (r + 1))

-- step number x is a receive of one of the first n rounds
abbrev pub receives_by : World → ℕ → ℕ → Bool
receives_by w zero x = false
receives_by w (suc n) x = receives_by w n x || receives_in w (suc n) x

-- step number x is a receive
abbrev pub is_receive : World → ℕ → Bool
is_receive w x = receives_by w w.rounds x
