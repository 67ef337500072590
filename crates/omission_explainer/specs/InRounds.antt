-- The run in rounds that a report shows.
use Rattle.std.specs.Prelude.{◌≡◌, ℕ, Bool, ◌&&◌, ◌==◌, if◌then◌else◌, List, [], ◌∷◌}
use Rattle.round_lang.specs.Sets.{is_in}
use Rattle.round_meaning.specs.Rounds.{Algorithm, rounds}
use Rattle.omission_explainer.specs.Rows.{ClosedRound}

-- the set that rows print as omitted for round r of node i, empty if they have no such row
unfoldable pub printed_omitted : List ClosedRound → ℕ → ℕ → ℕ
printed_omitted [] i r = 0
printed_omitted (row ∷ rows) i r =
    if row.node == i && row.round == r then row.omitted else printed_omitted rows i r

-- the omission table that rows print
abbrev pub printed_omits : List ClosedRound → ℕ → ℕ → ℕ → Bool
printed_omits rows i r j = is_in (printed_omitted rows i r) j

-- a row's state is that of its node after its round, in the run in rounds under an omission table
abbrev pub IsOfRounds : Algorithm → (ℕ → ℕ → ℕ → Bool) → ClosedRound → Type 0
IsOfRounds a omits row = row.state ≡ rounds a omits row.round row.node
