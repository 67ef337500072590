use Rattle.std.proofs.Common.{ℕ, ◌<◌}
use Rattle.step_book.specs.Log.{CanMake}
use Rattle.step_book.proofs.book.Book.next_copy.Given as goal

abbrev pub invariant-loop-copy : goal.invariant-loop-copy
invariant-loop-copy g l =
    (d : ℕ) → 0 < d → d < l.copy
    → ¬ (CanMake (g.P.Plan.start l.fn.self.plan) l.fn.self.log l.fn.name d)
