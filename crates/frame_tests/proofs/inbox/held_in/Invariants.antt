use Rattle.std.proofs.Common.{◌≤◌, length}
use Rattle.frame_views.specs.Inboxes.{AreFrames}
use Rattle.frame_tests.proofs.inbox.held_in.Given as goal

abbrev pub invariant-loop-part : goal.invariant-loop-part
invariant-loop-part l = record {
  few : length l.held.items ≤ 16;
  frames : AreFrames l.layout l.held.items;
}
