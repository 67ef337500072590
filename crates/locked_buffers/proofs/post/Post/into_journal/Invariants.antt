use Rattle.std.proofs.Common.{◌+◌, ◌≤◌, vec_capacity, vec_len}
use Rattle.std.specs.Vec.Iter.{into_iter_len}
use Rattle.locked_buffers.proofs.post.Post.into_journal.Given as goal

abbrev pub invariant-loop-buffer : goal.invariant-loop-buffer
invariant-loop-buffer g l = record {
  next : (goal.iterator-loop-buffer g).can_next l.buffer-iterator;
  finite : (goal.iterator-loop-buffer g).is_finite l.buffer-iterator;
  room : vec_len l.returned + into_iter_len l.buffer-iterator ≤ vec_capacity l.returned;
}
