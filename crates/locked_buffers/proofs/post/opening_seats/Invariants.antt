use Rattle.std.proofs.Common.{◌≡◌, ℕ, ◌<◌, vec_len, slice_index_or}
use Rattle.locked_buffers.specs.Seats.{Account, opening}
use Rattle.locked_buffers.proofs.post.opening_seats.Given as goal

abbrev pub invariant-loop-node : goal.invariant-loop-node
invariant-loop-node l = record {
  sized : vec_len l.seats ≡ l.node;
  each : (i : ℕ) (d : Account) → i < l.node
      → slice_index_or l.seats.items i d ≡ opening l.program l.setup i;
}
