use Rattle.std.proofs.Common.{◌≡◌, ap, arith, length, subst, ◌∙◌}
use Rattle.std.proofs.lemmas.List.{take_at}
use Rattle.std.specs.Arc.{arc_value}
use Rattle.std.specs.Prelude.{IfOk}
use Rattle.frame_format.specs.Reading.{SpelledIsRead}
use Rattle.step_machine.specs.Saying.{bytes_from, layout_in}
use Rattle.step_machine.specs.Sealed.{Frame, copied_as}
use Rattle.step_machine.proofs.Saying.{copy_is}
use Rattle.step_machine.proofs.sealed_view.SealedView.copied.Goals as goal

pub alone-requires : goal.alone-requires
alone-requires c =
    let d = c.self.inside.said.now in
    let o = arc_value c.in_ok-origin.origin in
    let new = c.write_copy.new.bytes in
    let first = c.self.inside.first in
    let from : o ≡ arc_value d.origin = c.in_ok-origin.ensures in
    let read : SpelledIsRead (layout_in o) =
    subst SpelledIsRead (c.deref-2.ensures
    ∙ ap layout_in c.deref.ensures) c.spelled_is_read.ensures in
    let old : c.deref_mut.result.now ≡ bytes_from d first =
    c.deref_mut.ensures.value ∙ c.in_ok-frames.ensures.items ∙ c.part.ensures in
    let long : length new ≡ c.in_ok-frames.frames.len =
    omega (arith, c.write_copy.auto.bytes, c.deref_mut.ensures.len) in
    (copy_is d first c.args.copy o _ _ new from read c.self.invariant old
    (take_at new _ c.in_ok-frames.frames.len long) c.write_copy.ensures).0

pub returns : goal.returns
returns c =
    let d = c.self.inside.said.now in
    let o = arc_value c.in_ok-origin.origin in
    let new = c.write_copy.new.bytes in
    let first = c.self.inside.first in
    let from : o ≡ arc_value d.origin = c.in_ok-origin.ensures in
    let read : SpelledIsRead (layout_in o) =
    subst SpelledIsRead (c.deref-2.ensures
    ∙ ap layout_in c.deref.ensures) c.spelled_is_read.ensures in
    let old : c.deref_mut.result.now ≡ bytes_from d first =
    c.deref_mut.ensures.value ∙ c.in_ok-frames.ensures.items ∙ c.part.ensures in
    let long : length new ≡ c.in_ok-frames.frames.len =
    omega (arith, c.write_copy.auto.bytes, c.deref_mut.ensures.len) in
    subst (λ (f : Frame). IfOk c.alone.result (λ frame. frame ≡ f))
    ((copy_is d first c.args.copy o _ _ new from read c.self.invariant old
    (take_at new _ c.in_ok-frames.frames.len long) c.write_copy.ensures).1
    ∙ ap (copied_as c.args.copy) c.self.view_is)
    c.alone.ensures
