use Rattle.std.proofs.Common.{◌≡◌, ℕ, ◌<◌, None}
use Rattle.step_machine.specs.Sealed.{held_at}
use Rattle.step_machine.proofs.held.let_go_of_all.Given as goal

abbrev pub invariant-loop-place : goal.invariant-loop-place
invariant-loop-place l = (j : ℕ) → j < l.place-index → held_at l.places j ≡ None
