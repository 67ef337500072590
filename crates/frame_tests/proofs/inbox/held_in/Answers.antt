use Rattle.std.proofs.Common.{List, ℕ, Option, arith, subst, sym}
use Rattle.frame_views.specs.Inboxes.{AreFrames}
use Rattle.frame_views.proofs.Inboxes.{AreFrames-push}
use Rattle.frame_tests.proofs.inbox.held_in.Goals as goal

pub loop-part-preserved : goal.loop-part-preserved
loop-part-preserved c =
    let layout = c.args.layout.now in
    let old = c.loop-part.held.items in
    record {
      few = omega (arith, c.in_ok-push.ensures.len);
      frames = subst (λ (held : List (Option (List ℕ))). AreFrames layout held)
          (sym {A = List (Option (List ℕ))} c.in_ok-push.ensures.items)
          (AreFrames-push layout old c.in_ok-frame_in.field-0 c.loop-part.invariant.frames
          c.in_ok-frame_in.ensures);
    }
