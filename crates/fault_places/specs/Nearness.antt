-- How near one name is to another.
use Rattle.std.specs.Prelude.{ℕ, ◌+◌, ◌/◌, List, length, nat_eq}
use Rattle.std.specs.Str.{chars, str_to_ascii_lowercase}
use Rattle.strsim.specs.Edits.{levenshtein_row}

-- the characters of a name, in small letters
abbrev pub small : (name : List ℕ) → List ℕ
small name = chars (str_to_ascii_lowercase name)

-- how many characters have to be changed, put in or left out to make one name of another, if case
-- doesn't count
unfoldable pub edits : (name other : List ℕ) → ℕ
edits name other = levenshtein_row nat_eq (small name) (small other) (length (small other))

-- how many edits a name may be away from one that was meant: one for three letters
abbrev pub most_edits : (name : List ℕ) → ℕ
most_edits name = (length name + 1) / 3
