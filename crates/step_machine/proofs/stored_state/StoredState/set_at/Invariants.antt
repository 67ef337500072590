use Rattle.std.proofs.Common.{◌≡◌, drop}
use Rattle.step_machine.proofs.stored_state.StoredState.set_at.Given as goal

-- so many values are passed
abbrev pub invariant-loop : goal.invariant-loop
invariant-loop l = l.reader ≡ drop l.counter l.self
