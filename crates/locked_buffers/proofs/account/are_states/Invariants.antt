use Rattle.std.specs.Arc.{arc_value}
use Rattle.step_book.specs.Log.{states_of}
use Rattle.locked_buffers.proofs.Alike.{AreAlike}
use Rattle.locked_buffers.proofs.account.are_states.Given as goal

abbrev pub invariant-loop-place : goal.invariant-loop-place
invariant-loop-place l = AreAlike (λ state. arc_value state) l.states (states_of l.recorded) l.place
