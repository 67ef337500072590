-- What is asked of an atomic commitment, beside agreement and finality.
use Rattle.std.specs.Prelude.{◌≡◌, ℕ, All}
use Rattle.round_explorer.specs.Properties.{Decides, Run}

-- up to round k of the run, 1 (commit) is decided only if every node's input (its vote) is 1
abbrev pub CommitsIfAll : Run → (k : ℕ) → Type 0
CommitsIfAll run k = (i r : ℕ) → Decides run k i r 1 → All (λ x. x ≡ 1) run.setup.inputs
