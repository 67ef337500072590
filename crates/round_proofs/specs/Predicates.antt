-- Conditions on an omission table. `omits i r j`: i doesn't get j's message of round r.
use Rattle.std.specs.Prelude.{◌≡◌, ℕ, ◌*◌, ◌<◌, Bool, false, ⊤, not}
use Rattle.std.specs.List.{count_by, range_with_len}
use Rattle.round_meaning.specs.declared.setup.Setup.{Setup}

-- no condition: any omission table
abbrev pub Any : Setup → (ℕ → ℕ → ℕ → Bool) → Type 0
Any s omits = ⊤

-- in each round, any two nodes hear some node in common
abbrev pub NoSplit : Setup → (ℕ → ℕ → ℕ → Bool) → Type 0
NoSplit s omits =
    (r i k : ℕ) → i < s.nodes → k < s.nodes
    → (j : ℕ) × (j < s.nodes) × (omits i r j ≡ false) × (omits k r j ≡ false)

-- in each round, each node hears more than half of the nodes
abbrev pub HearsMajority : Setup → (ℕ → ℕ → ℕ → Bool) → Type 0
HearsMajority s omits =
    (r i : ℕ) → i < s.nodes
    → s.nodes < 2 * count_by (λ j. not (omits i r j)) (range_with_len 0 s.nodes)
