use Rattle.std.proofs.Common.{◌≡◌, ◌*◌, ◌<◌, ◌^◌, List, Option, Some, ap, arith, subst, sym, ◌∙◌}
use Rattle.std.specs.Arc.{arc_value}
use Rattle.round_lang.specs.declared.value.Value.{Value}
use Rattle.frame_format.specs.Formats.{IsFormat}
use Rattle.step_machine.specs.declared.said.Said.{Said}
use Rattle.step_machine.specs.declared.spoken.Spoken.{Spoken}
use Rattle.step_machine.specs.Saying.{AreSpoken, IsToAll, layout_in, origin_of}
use Rattle.step_machine.specs.Sealed.{Frame, Ready}
use Rattle.step_machine.proofs.Saying.{first_small, lies_shared}
use Rattle.step_machine.proofs.spoken.Spoken.prepared.Goals as goal

pub overflow_cast-first-in-Frames : goal.overflow_cast-first-in-Frames
overflow_cast-first-in-Frames c =
    let d = arc_value c.in-Frames.said in
    let n = c.args.name in
    let format : c.deref-in-Frames-5.result.now ≡ layout_in (arc_value d.origin) =
    c.deref-in-Frames-5.ensures
    ∙ ap layout_in (c.deref-in-Frames-4.ensures
    ∙ ap (λ (x : Said). arc_value x.origin) c.deref-in-Frames-3.ensures) in
    let within : n.to < (layout_in (arc_value d.origin)).nodes =
    subst (λ (a : Spoken). n.to < (layout_in (origin_of a)).nodes) c.in-Frames.is
    c.requires.to in
    let all : IsToAll n.from n.round c.requires.spoken.0 d =
    subst (AreSpoken n.from n.round c.requires.spoken.0) c.in-Frames.is c.requires.spoken.1 in
    let small = subst (λ (x : Said). n.to * x.size < 2 ^ 32) (sym c.deref-in-Frames-6.ensures)
    (first_small (layout_in (arc_value d.origin)) n.round n.to d.size
    (subst IsFormat format c.lawful.ensures) all.size_is within) in
    omega (arith, small)

pub new-frame-requires : goal.new-frame-requires
new-frame-requires c =
    let d = arc_value c.in-Frames.said in
    let n = c.args.name in
    let layout : c.deref-in-Frames-2.result.now ≡ layout_in (arc_value d.origin) =
    c.deref-in-Frames-2.ensures
    ∙ ap layout_in (c.deref-in-Frames.ensures
    ∙ ap (λ (x : Said). arc_value x.origin) c.deref.ensures) in
    let within : n.to < (layout_in (arc_value d.origin)).nodes =
    subst (λ (a : Spoken). n.to < (layout_in (origin_of a)).nodes) c.in-Frames.is
    c.requires.to in
    let all : IsToAll n.from n.round c.requires.spoken.0 d =
    subst (AreSpoken n.from n.round c.requires.spoken.0) c.in-Frames.is c.requires.spoken.1 in
    (lies_shared n d _ _ _ c.requires.spoken.0 c.in_ok-try_clone-in-Frames.ensures
    c.deref-in-Frames-6.ensures layout c.spelled_is_read.ensures within c.requires.original
    all).0

pub message-requires-clause-named : goal.message-requires-clause-named
message-requires-clause-named c =
    let d = arc_value c.in-Frames.said in
    let n = c.args.name in
    let layout : c.deref-in-Frames-2.result.now ≡ layout_in (arc_value d.origin) =
    c.deref-in-Frames-2.ensures
    ∙ ap layout_in (c.deref-in-Frames.ensures
    ∙ ap (λ (x : Said). arc_value x.origin) c.deref.ensures) in
    let within : n.to < (layout_in (arc_value d.origin)).nodes =
    subst (λ (a : Spoken). n.to < (layout_in (origin_of a)).nodes) c.in-Frames.is
    c.requires.to in
    let all : IsToAll n.from n.round c.requires.spoken.0 d =
    subst (AreSpoken n.from n.round c.requires.spoken.0) c.in-Frames.is c.requires.spoken.1 in
    let lies = lies_shared n d _ _ _ c.requires.spoken.0 c.in_ok-try_clone-in-Frames.ensures
    c.deref-in-Frames-6.ensures layout c.spelled_is_read.ensures within c.requires.original
    all in
    ap (λ (f : Frame). f.name) (c.new-frame.ensures ∙ lies.1)

pub returns-in_ok-try_clone-in-Frames : goal.returns-in_ok-try_clone-in-Frames
returns-in_ok-try_clone-in-Frames c =
    let d = arc_value c.in-Frames.said in
    let n = c.args.name in
    let layout : c.deref-in-Frames-2.result.now ≡ layout_in (arc_value d.origin) =
    c.deref-in-Frames-2.ensures
    ∙ ap layout_in (c.deref-in-Frames.ensures
    ∙ ap (λ (x : Said). arc_value x.origin) c.deref.ensures) in
    let within : n.to < (layout_in (arc_value d.origin)).nodes =
    subst (λ (a : Spoken). n.to < (layout_in (origin_of a)).nodes) c.in-Frames.is
    c.requires.to in
    let under : Frame → Ready = λ f. record {
      format = f.format;
      name = n;
      state = f.state;
      message = Some f.message;
    } in
    let saying : Option (List Value)
    → Ready = λ m. record {
      format = layout_in (arc_value d.origin);
      name = n;
      state = (arc_value d.origin).state;
      message = m;
    } in
    λ m spoken.
    let all : IsToAll n.from n.round m d =
    subst (AreSpoken n.from n.round m) c.in-Frames.is spoken in
    let from : Spoken → Ready = λ a. record {
      format = layout_in (origin_of a);
      name = n;
      state = (origin_of a).state;
      message = m;
    } in
    let lies = lies_shared n d _ _ _ m c.in_ok-try_clone-in-Frames.ensures
    c.deref-in-Frames-6.ensures layout c.spelled_is_read.ensures within c.requires.original
    all in
    c.message.ensures ∙ ap under (c.new-frame.ensures ∙ lies.1) ∙ ap saying (sym all.message_is)
    ∙ ap from (sym c.in-Frames.is)
