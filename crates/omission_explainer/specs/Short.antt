-- Texts that are made in place before they go out.
use Rattle.std.specs.Prelude.{◌≡◌, ◌≤◌, ℕ, List, ◌++◌, length, Option}
use Rattle.std.specs.Io.KnownBytes.{Appends}
use Rattle.round_lang.specs.Sets.{members}
use Rattle.omission_explainer.specs.Report.{numbers_text}

-- how many bytes a piece has at most that is added at once
abbrev pub piece : ℕ
piece = 256

-- Some of a text was handed to a writer and the rest is kept back: together with what was kept back
-- before, they have got these bytes more.
pub record Tells (written : Option (List ℕ)) (kept : List ℕ) (written_now : Option (List ℕ))
    (kept_now bytes : List ℕ) : Type 0 where
  pub gone : List ℕ
  pub wrote : Appends written written_now gone
  pub joined : gone ++ kept_now ≡ kept ++ bytes

-- The text lists a set's members, separated by commas, in at most 192 bytes.
pub record ListsMembers (text : List ℕ) (set : ℕ) : Type 0 where
  pub is : text ≡ numbers_text (members set)
  pub short : length text ≤ 192
