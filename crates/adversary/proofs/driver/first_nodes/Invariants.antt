use Rattle.std.proofs.Common.{ℕ}
use Rattle.step_book.specs.Log.{opened}
use Rattle.adversary.proofs.Starting.{AreFirst}
use Rattle.adversary.proofs.driver.first_nodes.Given as goal

abbrev pub invariant-loop-me : goal.invariant-loop-me
invariant-loop-me l = (start : ℕ → ℕ) → AreFirst start (opened l.program l.setup) l.me l.nodes.items
