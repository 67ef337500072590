-- Tables with a place for each message, one for each copy number or one for each round. What they
-- haven't reached reads as a default.
use Rattle.std.specs.Prelude.{◌≡◌, ℕ, ◌<◌, List, [], length, map, slice_index_or, Vec}

-- what stands at a place of a table
abbrev pub read_at : {A : Type 0} → A → List (List A) → ℕ → ℕ → A
read_at none tables table place = slice_index_or (slice_index_or tables table []) place none

-- the place is in the table
abbrev pub HasPlace : {A : Type 0} → List (List A) → ℕ → ℕ → Type 0
HasPlace tables table place =
    (table < length tables) × (place < length (slice_index_or tables table []))

-- each place of one table has what it had
abbrev pub SameTable : {A : Type 0} → A → List A → List A → Type 0
SameTable none old new = (k : ℕ) → slice_index_or new k none ≡ slice_index_or old k none

-- each place has what it had
abbrev pub SameTables : {A : Type 0} → A → List (List A) → List (List A) → Type 0
SameTables none old new = (c k : ℕ) → read_at none new c k ≡ read_at none old c k

-- one place of one table has this, and each other what it had
pub record PutsAt {A : Type 0} (none : A) (old new : List A) (place : ℕ) (x : A) : Type 0 where
  pub there : slice_index_or new place none ≡ x
  pub others : (k : ℕ) → ¬ (k ≡ place) → slice_index_or new k none ≡ slice_index_or old k none

-- one place has this, and each other what it had
pub record Puts {A : Type 0} (none : A) (old new : List (List A))
    (table place : ℕ) (x : A) : Type 0 where
  pub there : read_at none new table place ≡ x
  pub others : (c k : ℕ) → ¬ ((c ≡ table) × (k ≡ place))
      → read_at none new c k ≡ read_at none old c k

-- the tables that vectors hold
abbrev pub tables_of : {A B : Type 0} → List (Vec A B) → List (List A)
tables_of xs = map (λ v. v.items) xs
