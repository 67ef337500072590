use Rattle.std.proofs.Common.{◌≡◌, ◌<◌, length}
use Rattle.step_book.specs.Log.{states_of}
use Rattle.locked_buffers.proofs.post.Post.receive.Given as goal

abbrev pub invariant-loop : goal.invariant-loop
invariant-loop g l = record {
  next : (goal.iterator-loop g).can_next l.iterator';
  finite : (goal.iterator-loop g).is_finite l.iterator';
  handed : l.seat-inside.handed.handed ≡ l.fn.seat.handed;
  node : l.seat-inside.node ≡ l.fn.seat.node;
  steps : l.seat-inside.steps ≡ l.fn.seat.steps;
  states : states_of l.seat-inside.states.items ≡ l.fn.seat.states;
  some : 0 < length l.seat-inside.states.items;
}
