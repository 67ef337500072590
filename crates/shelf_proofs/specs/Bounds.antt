-- The round by which nodes have decided, for n nodes, t faults and a first clear round.
use Rattle.std.specs.Prelude.{ℕ, ◌+◌, ◌-◌, ◌*◌, ◌/◌, ◌<◌}
use Rattle.round_explorer.specs.declared.question.Question.{Question}

-- t + 1 rounds
abbrev pub flooding_bound : ℕ → ℕ → ℕ → ℕ
flooding_bound n t clear = t + 1

-- t div 2 + 1 rounds
abbrev pub floodmin_bound : ℕ → ℕ → ℕ → ℕ
floodmin_bound n t clear = t / 2 + 1

-- the last of t + 2 clear rounds: in one of the first t + 1 no node crashes, and in the next one
-- all decide
abbrev pub calm_bound : ℕ → ℕ → ℕ → ℕ
calm_bound n t clear = clear + t + 1

-- the last round of t + 1 whole phases of four clear rounds
abbrev pub phases_bound : ℕ → ℕ → ℕ → ℕ
phases_bound n t clear = 4 * ((clear + 2) / 4) + 4 * (t + 1)

-- t is less than half of n, and n is 2 or more
abbrev pub IsMinorityOfSome : ℕ → ℕ → Type 0
IsMinorityOfSome n t = (2 * t < n) × (1 < n)

-- less than half of two or more nodes fail, in any way
abbrev pub AsksFewOfSome : ℕ → ℕ → Question → Type 0
AsksFewOfSome n t question = IsMinorityOfSome n t

-- the last but one round of 2n - 1 whole phases of four clear rounds
abbrev pub owners_bound : ℕ → ℕ → ℕ → ℕ
owners_bound n t clear = 4 * ((clear + 2) / 4) + 4 * (2 * n - 1) - 1

-- the last but one round of n + 1 whole phases of four clear rounds
abbrev pub eager_bound : ℕ → ℕ → ℕ → ℕ
eager_bound n t clear = 4 * ((clear + 2) / 4) + 4 * (n + 1) - 1

-- in one of t + 1 clear rounds no node crashes; the last round of the first phase of two rounds
-- that
-- begins after it
abbrev pub voting_bound : ℕ → ℕ → ℕ → ℕ
voting_bound n t clear = 2 * ((clear + t + 3) / 2)
