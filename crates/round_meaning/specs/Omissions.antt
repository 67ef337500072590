-- Which messages a run omits.
use Rattle.std.specs.Prelude.{◌≡◌, ℕ, Bool, ◌&&◌, ◌||◌, ◌==◌, List}
use Rattle.std.specs.List.{list_any}
use Rattle.round_meaning.specs.declared.omissions.Omission.{Omission}

-- receiver i omits j's message of round r
abbrev pub omits : ℕ → ℕ → ℕ → Omission → Bool
omits i r j o = o.receiver == i && (o.round == r && o.sender == j)

-- some entry omits j's message of round r to i
abbrev pub is_omitted : List Omission → ℕ → ℕ → ℕ → Bool
is_omitted os i r j = list_any (omits i r j) os

-- the new table omits what the old one does, and one message more
abbrev pub AddsOmission : List Omission → List Omission → Omission → Type 0
AddsOmission old new o =
    (i r j : ℕ) → is_omitted new i r j ≡ (omits i r j o || is_omitted old i r j)
