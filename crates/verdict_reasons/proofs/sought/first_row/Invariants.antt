use Rattle.std.proofs.Common.{ℕ, ◌<◌, ◌≤◌}
use Rattle.verdict_reasons.specs.Decisions.{RowAt}
use Rattle.verdict_reasons.specs.Seeking.{IsSought}
use Rattle.verdict_reasons.proofs.sought.first_row.Given as goal

abbrev pub invariant-loop-place : goal.invariant-loop-place
invariant-loop-place l = record {
  started : l.from ≤ l.place;
  none : (k : ℕ) → l.from ≤ k → k < l.place → ¬ RowAt l.rows (IsSought l.sought) k;
}
