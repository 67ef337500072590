-- The first row that has what is sought.
use Rattle.std.specs.Prelude.{◌≡◌, ◌≢◌, ℕ, ◌<◌, ◌≤◌, List, Some, IsSome}
use Rattle.omission_explainer.specs.Rows.{ClosedRound}
use Rattle.verdict_reasons.specs.Decisions.{IsOtherThan, RowAt}
use Rattle.verdict_reasons.specs.declared.sought.Sought.{Sought}
use Rattle.verdict_reasons.specs.declared.sought.Sought.TheVariants.{Decision, OtherThan}
use Rattle.verdict_reasons.specs.declared.sought.Sought.TheVariants.{DecisionOf, ChangeOf}

-- the row has what is sought
abbrev pub IsSought : Sought → ClosedRound → Type 0
IsSought Decision row = IsSome row.decision
IsSought (OtherThan v) row = IsOtherThan v row.decision
IsSought (DecisionOf i) row = (row.node ≡ i) × IsSome row.decision
IsSought (ChangeOf i v) row = (row.node ≡ i) × (row.decision ≢ Some v)

-- from this place on, the row at `place` is the first of which the statement is true
pub record IsFirstFrom (rows : List ClosedRound) (Is : ClosedRound → Type 0) (from place : ℕ)
    : Type 0 where
  pub after : from ≤ place
  pub there : RowAt rows Is place
  pub none : (k : ℕ) → from ≤ k → k < place → ¬ RowAt rows Is k
