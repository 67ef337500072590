use Rattle.std.proofs.Common.{length, drop, ◌-◌, ◌≡◌}
use Rattle.frame_views.specs.Inboxes.{inbox_from, IsInbox}
use Rattle.frame_views.proofs.inbox.InboxViewIterator.next.Given as goal

abbrev pub invariant-loop-self : goal.invariant-loop-self
invariant-loop-self l = record {
  left : inbox_from l.self-inside.layout.now l.self-inside.at
      (drop l.self-inside.at l.self-inside.held.now) ≡ l.fn.self;
  inbox : IsInbox l.self-inside.layout.now l.self-inside.at l.self-inside.held.now;
}

abbrev pub decreases-loop-self : goal.decreases-loop-self
decreases-loop-self l = length l.self-inside.held.now - l.self-inside.at
