-- The last round of a plan starts latest and has the most receive steps.
use Rattle.std.proofs.Common.{ℕ, ◌<◌, ◌≤◌, arith}
use Rattle.slot_plans.specs.Plan.{IsClear, IsRound, PlanLaws}
use Rattle.slot_plans.proofs.Rounds.{clear_rounds_last, start-le, starts_apart}
use Rattle.verdict_reasons.specs.Clearness.{IsUnclear}
use Rattle.verdict_reasons.specs.declared.unclear.Unclear.TheVariants.{FewReceives, LateStart}

module _ (nodes : ℕ) (receives start : ℕ → ℕ) (laws : PlanLaws nodes receives start) where
  last_longest : (r : ℕ) → IsRound r → receives r ≤ receives 4096
  last_longest r round =
      let last : IsClear receives start (receives r) 0 4096 =
      clear_rounds_last nodes receives start laws (receives r) 0 r 4096 round.0 round.1
      (record { stable = omega arith; lasts = omega arith }) in
      last.lasts

  pub too_short : (delta gst : ℕ) → receives 4096 < delta
      → IsUnclear receives start delta gst FewReceives
  too_short delta gst short r round = omega (arith, last_longest r round)

  pub too_early : (delta gst : ℕ) → delta ≤ receives 4096 → start 4096 < gst
      → IsUnclear receives start delta gst LateStart
  too_early delta gst long early = (
    record { round = 4096; of_plan = (omega arith, omega arith); lasts = long },
    λ r round l. omega (
      arith,
      start-le nodes start (starts_apart laws) r 4096 round.0 round.1,
    ),
  )
