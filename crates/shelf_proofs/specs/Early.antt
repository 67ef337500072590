-- When nodes have decided, counted by the nodes that do fail.
use Rattle.std.specs.Prelude.{ℕ, ◌+◌, ◌≤◌}
use Rattle.std.specs.List.{count_by}
use Rattle.round_explorer.specs.Properties.{Run, Terminates}
use Rattle.round_explorer.specs.Questions.{is_faulty}

-- if f nodes of the run fail and it has f + 2 rounds or more, each node that doesn't fail has
-- decided after the last one
abbrev pub DecidesEarly : Run → (k : ℕ) → Type 0
DecidesEarly run k = count_by is_faulty run.pattern + 2 ≤ k → Terminates run k
