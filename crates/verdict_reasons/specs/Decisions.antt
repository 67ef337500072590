-- Which decisions of a report differ, and which are taken back. Places are those of the rows in the
-- report's list, from 0.
use Rattle.std.specs.Prelude.{◌≡◌, ◌≢◌, ℕ, ◌<◌, ◌≤◌, List, Option, None, Some, IsSome, slice_get}
use Rattle.omission_explainer.specs.Rows.{ClosedRound}
use Rattle.verdict_reasons.specs.declared.decisions.Split.{Split}
use Rattle.verdict_reasons.specs.declared.decisions.TakenBack.{TakenBack}

-- there is a row at this place, and the statement is true of it
pub record RowAt (rows : List ClosedRound) (Is : ClosedRound → Type 0) (place : ℕ) : Type 0 where
  pub row : ClosedRound
  pub there : slice_get rows place ≡ Some row
  pub is : Is row

-- of all rows this one is the first of which the statement is true
pub record IsFirstRow (rows : List ClosedRound) (Is : ClosedRound → Type 0) (place : ℕ)
    : Type 0 where
  pub there : RowAt rows Is place
  pub none : (k : ℕ) → k < place → ¬ RowAt rows Is k

-- there is a decision, and it isn't v
abbrev pub IsOtherThan : ℕ → Option ℕ → Type 0
IsOtherThan v None = ⊥
IsOtherThan v (Some u) = u ≢ v

-- the first row with a decision, and the first one with a decision other than that
pub record IsFirstSplit (rows : List ClosedRound) (s : Split) : Type 0 where
  pub decision : ℕ
  pub first : IsFirstRow rows (λ row. IsSome row.decision) s.first
  pub value : RowAt rows (λ row. row.decision ≡ Some decision) s.first
  pub other : IsFirstRow rows (λ row. IsOtherThan decision row.decision) s.other

-- the node's row at `decided` has a decision, and its later row at `changed` has another or none
pub record IsTakenBack (rows : List ClosedRound) (node : ℕ) (t : TakenBack) : Type 0 where
  pub decision : ℕ
  pub decides : RowAt rows (λ row. (row.node ≡ node) × (row.decision ≡ Some decision)) t.decided
  pub later : t.decided < t.changed
  pub changes : RowAt rows (λ row. (row.node ≡ node) × (row.decision ≢ Some decision)) t.changed

-- the node takes back no decision of an earlier row, nor this one at an earlier row
pub record IsFirstTakenBack (rows : List ClosedRound) (node : ℕ) (t : TakenBack) : Type 0 where
  pub taken_back : IsTakenBack rows node t
  pub first : (other : TakenBack) → IsTakenBack rows node other → t.decided ≤ other.decided
  pub soonest : (other : TakenBack) → IsTakenBack rows node other → other.decided ≡ t.decided
      → t.changed ≤ other.changed
