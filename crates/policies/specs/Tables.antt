-- Tables that are read round and round.
use Rattle.std.specs.Prelude.{ℕ, ◌%◌, List, [], ◌∷◌, length, slice_index}

-- the entry for place k, from the first again after the last; d if the table is empty
abbrev pub round_entry : List ℕ → ℕ → ℕ → ℕ
round_entry [] k d = d
round_entry (x ∷ xs) k d = slice_index (x ∷ xs) (k % length (x ∷ xs))
