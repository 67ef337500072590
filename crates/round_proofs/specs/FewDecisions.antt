-- How many values the nodes of a run decide: k-set agreement.
use Rattle.std.specs.Prelude.{ℕ, ◌≤◌, Contains, List, length}
use Rattle.round_explorer.specs.Properties.{Decides, Run}

-- up to round k of the run, the nodes decide at most m different values
abbrev pub DecidesFew : (m : ℕ) → Run → (k : ℕ) → Type 0
DecidesFew m run k =
    (vs : List ℕ) × (length vs ≤ m) × ((i r v : ℕ) → Decides run k i r v → Contains vs v)
