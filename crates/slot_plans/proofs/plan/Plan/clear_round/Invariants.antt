use Rattle.std.proofs.Common.{ℕ, ◌<◌, ◌≤◌}
use Rattle.slot_plans.specs.Plan.{IsClear}
use Rattle.slot_plans.proofs.plan.Plan.clear_round.Given as goal

-- no earlier round is clear
abbrev pub invariant-loop-round : goal.invariant-loop-round
invariant-loop-round g l =
    (s : ℕ) → 1 ≤ s → s < l.round
    → ¬ IsClear (g.Self.Plan.receives l.self) (g.Self.Plan.start l.self) l.delta l.gst s
