-- Texts of programs over any number of values.
use Rattle.std.specs.Prelude.{◌≡◌, ◌≤◌, ℕ, true, List, ◌++◌}
use Rattle.round_check.specs.Causes.{is_typed}
use Rattle.round_lang.specs.Limits.{max_values}
use Rattle.round_lang.specs.Source.{IsSource}
use Rattle.round_lang.specs.Syntax.{ProgramTree}
use Rattle.algorithm_library.specs.Texts.{text_of}

-- the text has `values K` somewhere, for this K; with any number from 1 to 64 in the place of K it
-- is the program of the family over that number of values, in which every expression has its type
pub record IsFamilyText (text : List ℕ) (values : ℕ) (family : ℕ → ProgramTree) : Type 0 where
  pub front : List ℕ
  pub rest : List ℕ
  pub is : text ≡ front ++ text_of rest values
  pub source : (k : ℕ) → 1 ≤ k → k ≤ max_values → IsSource (front ++ text_of rest k) (family k)
  pub typed : (k : ℕ) → is_typed (family k) ≡ true
