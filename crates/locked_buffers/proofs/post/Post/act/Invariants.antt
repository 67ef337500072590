use Rattle.std.proofs.Common.{◌≡◌}
use Rattle.locked_buffers.proofs.post.Post.act.Given as goal

abbrev pub invariant-loop : goal.invariant-loop
invariant-loop g l = record {
  next : (goal.iterator-loop g).can_next l.iterator';
  finite : (goal.iterator-loop g).is_finite l.iterator';
  relay : l.relay ≡ l.initial.relay;
}
