use Rattle.std.proofs.Common.{◌≡◌, ap, arith, length, subst, ◌∙◌}
use Rattle.std.proofs.lemmas.List.{take_at}
use Rattle.std.specs.Arc.{arc_value}
use Rattle.std.specs.Prelude.{IfOk}
use Rattle.frame_format.specs.Reading.{SpelledIsRead}
use Rattle.frame_format.specs.Formats.{Format}
use Rattle.frame_format.specs.Spelling.{Spells}
use Rattle.step_machine.specs.Framing.{written_as}
use Rattle.step_machine.specs.Saying.{layout_in}
use Rattle.step_machine.specs.Sealed.{Frame}
use Rattle.step_machine.proofs.Saying.{written_is}
use Rattle.step_machine.proofs.sealed.Sealed.written.Goals as goal

pub alone-requires : goal.alone-requires
alone-requires c =
    let o = arc_value c.args.origin in
    let new = c.write_frame.new.bytes in
    let read : SpelledIsRead (layout_in o) =
    subst SpelledIsRead (c.deref-2.ensures
    ∙ ap layout_in c.deref.ensures) c.spelled_is_read.ensures in
    let spells : Spells (layout_in o) new (written_as c.args.name c.args.message.now) =
    subst (λ (s : Format). Spells s new (written_as c.args.name c.args.message.now))
    (c.deref-7.ensures ∙ ap layout_in c.deref-6.ensures) c.write_frame.ensures in
    let long : length new ≡ c.in_ok-frames.frames.len =
    omega (arith, c.write_frame.auto.bytes, c.deref_mut.ensures.len) in
    (written_is (layout_in o) o.state c.args.name c.args.message.now _ new read
    (take_at new _ c.in_ok-frames.frames.len long) spells).0

pub returns : goal.returns
returns c =
    let o = arc_value c.args.origin in
    let new = c.write_frame.new.bytes in
    let read : SpelledIsRead (layout_in o) =
    subst SpelledIsRead (c.deref-2.ensures
    ∙ ap layout_in c.deref.ensures) c.spelled_is_read.ensures in
    let spells : Spells (layout_in o) new (written_as c.args.name c.args.message.now) =
    subst (λ (s : Format). Spells s new (written_as c.args.name c.args.message.now))
    (c.deref-7.ensures ∙ ap layout_in c.deref-6.ensures) c.write_frame.ensures in
    let long : length new ≡ c.in_ok-frames.frames.len =
    omega (arith, c.write_frame.auto.bytes, c.deref_mut.ensures.len) in
    subst (λ (f : Frame). IfOk c.alone.result (λ frame. frame ≡ f))
    (written_is (layout_in o) o.state c.args.name c.args.message.now _ new read
    (take_at new _ c.in_ok-frames.frames.len long) spells).1
    c.alone.ensures
