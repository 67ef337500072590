-- Why no round of a plan is clear.
use Rattle.std.specs.Prelude.{ℕ, ◌<◌, ◌≤◌}
use Rattle.slot_plans.specs.Plan.{IsClear, IsRound}
use Rattle.verdict_reasons.specs.declared.unclear.Unclear.{Unclear}
use Rattle.verdict_reasons.specs.declared.unclear.Unclear.TheVariants.{FewReceives, LateStart}

-- some round is clear
pub record HasClearRound (receives start : ℕ → ℕ) (delta gst : ℕ) : Type 0 where
  pub round : ℕ
  pub of_plan : IsRound round
  pub clear : IsClear receives start delta gst round

-- some round has so many receive steps
pub record HasReceives (receives : ℕ → ℕ) (delta : ℕ) : Type 0 where
  pub round : ℕ
  pub of_plan : IsRound round
  pub lasts : delta ≤ receives round

-- no round is clear: each has fewer receive steps than delta; or some have as many, but each of
-- those starts before gst
abbrev pub IsUnclear : (ℕ → ℕ) → (ℕ → ℕ) → ℕ → ℕ → Unclear → Type 0
IsUnclear receives start delta gst FewReceives =
    (r : ℕ) → IsRound r → receives r < delta
IsUnclear receives start delta gst LateStart =
    HasReceives receives delta
    × ((r : ℕ) → IsRound r → delta ≤ receives r → start r < gst)
