-- Frames in one piece of memory, and where they lie.
use Rattle.std.proofs.Common.{
  ◌≡◌,
  ℕ,
  ◌+◌,
  ◌*◌,
  ◌-◌,
  ◌<◌,
  ◌≤◌,
  ◌^◌,
  List,
  Option,
  length,
  arith,
  ap,
  mul-le-mul_right,
  sym,
  subst,
  ◌∙◌,
}
use Rattle.std.proofs.lemmas.List.{take_all}
use Rattle.std.specs.Arc.{arc_value}
use Rattle.std.specs.List.{slice_range}
use Rattle.round_lang.specs.declared.value.Value.{Value}
use Rattle.frame_format.specs.declared.frame.Frame.{Frame as Written}
use Rattle.frame_format.specs.declared.version.FrameVersion.TheVariants.{V2}
use Rattle.frame_format.specs.Formats.{Format, IsFormat, position}
use Rattle.frame_format.specs.Reading.{SpelledIsRead}
use Rattle.frame_format.specs.Spelling.{Spells}
use Rattle.frame_views.specs.Writing.{frame_size, nth_frame}
use Rattle.run_events.specs.declared.name.Name.{Name}
use Rattle.step_machine.specs.declared.origin.Origin.{Origin}
use Rattle.step_machine.specs.declared.said.Said.{Said}
use Rattle.step_machine.specs.Sealed.{Frame, copied_as}
use Rattle.step_machine.specs.Framing.{IsSealed, frame_in, written_as}
use Rattle.step_machine.specs.Saying.{IsFrameFrom, IsToAll, bytes_from, frame_from, layout_in}
use Rattle.step_machine.proofs.Framing.{IsNamed, message_at, sealed_copy, spelled_named, spoken_to}
use Rattle.step_machine.proofs.Framing.{within_all}

whole : (bytes : List ℕ) (n : ℕ) → n ≡ length bytes → slice_range bytes 0 (0 + n) ≡ bytes
whole bytes n e = take_all (0 + n - 0) bytes (omega (arith, e))

-- alone in its memory, a frame lies from the start on
pub alone_lies : (d : Said) → d.size ≡ length d.frames.items
    → IsSealed (layout_in (arc_value d.origin)) d.frames.items → IsFrameFrom d 0
alone_lies d e h = record {
  within = omega (arith, e);
  sealed = subst (IsSealed (layout_in (arc_value d.origin)))
      (sym (whole d.frames.items d.size e)) h;
}

pub alone_says : (d : Said) → d.size ≡ length d.frames.items
    → frame_from d 0 ≡ frame_in (layout_in (arc_value d.origin))
    (arc_value d.origin).state d.frames.items
alone_says d e =
    ap (λ (b : List ℕ). frame_in (layout_in (arc_value d.origin)) (arc_value d.origin).state b)
    (whole d.frames.items d.size e)

-- bytes under a name say their message under it
pub named_frame : (s : Format) (state : List Value) (n : Name) (m : List Value) (bytes : List ℕ)
    → IsNamed s n bytes → message_at s bytes ≡ m
    → frame_in s state bytes ≡ record { format = s; name = n; state = state; message = m }
named_frame s state n m bytes h e =
    let under : Name → Frame = λ x. record {
      format = s;
      name = x;
      state = state;
      message = message_at s bytes;
    } in
    let saying : List Value → Frame = λ x. record {
      format = s;
      name = n;
      state = state;
      message = x;
    } in
    ap under h.name_is ∙ ap saying e

-- bytes that are written under a name
pub written_is : (s : Format) (state : List Value) (n : Name) (m : List Value) (bytes new : List ℕ)
    → SpelledIsRead s → bytes ≡ new → Spells s new (written_as n m)
    → IsSealed s bytes
    × (frame_in s state bytes ≡ record { format = s; name = n; state = state; message = m })
written_is s state n m bytes new read same h =
    let r = spelled_named s read n m bytes
    (subst (λ (b : List ℕ). Spells s b (written_as n m)) (sym same) h) in
    (r.0.sealed, named_frame s state n m bytes r.0 r.1)

-- the bytes of a frame, made those of copy k
pub copy_is : (d : Said) (first k : ℕ) (o : Origin) (bytes old new : List ℕ)
    → o ≡ arc_value d.origin → SpelledIsRead (layout_in o) → IsFrameFrom d first
    → old ≡ bytes_from d first → bytes ≡ new
    → ((s : Format) (f : Written) → Spells s old f → f.version ≡ V2
    → Spells s new (record f { copy = k }))
    → IsSealed (layout_in o) bytes
    × (frame_in (layout_in o) o.state bytes ≡ copied_as k (frame_from d first))
copy_is d first k o bytes old new from read lies was same writes =
    let s = layout_in o in
    let layout : layout_in (arc_value d.origin) ≡ s = sym (ap layout_in from) in
    let before : IsSealed s old = subst (IsSealed s) (sym was)
    (subst (λ (t : Format). IsSealed t (bytes_from d first)) layout lies.sealed) in
    let after = sealed_copy s o.state old new k read before (writes s) in
    let said : frame_in s o.state old ≡ frame_from d first = ap (frame_in s o.state) was
    ∙ ap (λ (x : Origin). frame_in (layout_in x) x.state (bytes_from d first)) from in (
      subst (IsSealed s) (sym same) after.0,
      ap (frame_in s o.state) same ∙ after.1
          ∙ ap (copied_as k) said,
    )

-- what is said to all is so short that 4 bytes count where each frame begins
pub first_small : (s : Format) (round to n : ℕ) → IsFormat s → n ≡ frame_size s round → to < s.nodes
    → to * n < 2 ^ 32
first_small s round to n h e within =
    let small = (h.blocks (position s round)).small in
    let most = mul-le-mul_right {m = to} {n = 16} n (omega (arith, within, h.few_nodes)) in
    omega (arith, most, e, small)

-- the frame to a node lies behind those to the nodes below it
pub lies_to : (n : Name) (d : Said) (m : Option (List Value))
    → SpelledIsRead (layout_in (arc_value d.origin)) → n.to < (layout_in (arc_value d.origin)).nodes
    → n.copy ≡ 0
    → (h : IsToAll n.from n.round m d)
    → IsFrameFrom d (n.to * d.size)
    × (frame_from d (n.to * d.size) ≡ record {
      format = layout_in (arc_value d.origin);
      name = n;
      state = (arc_value d.origin).state;
      message = h.said;
    })
lies_to n d m read within original h =
    let s = layout_in (arc_value d.origin) in
    let bytes = d.frames.items in
    let first = n.to * d.size in
    let e : frame_size s n.round ≡ d.size = sym h.size_is in
    let named : IsNamed s n (bytes_from d first) × (message_at s (bytes_from d first) ≡ h.said) =
    subst (λ (k : ℕ). IsNamed s n (nth_frame k bytes n.to)
    × (message_at s (nth_frame k bytes n.to) ≡ h.said)) e
    (spoken_to s n h.said bytes read within original h.frames_are) in
    let room : first + d.size ≤ length bytes =
    subst (λ (k : ℕ). n.to * k + k ≤ length bytes) e
    (within_all s n.from n.round n.to h.said bytes within h.frames_are) in (
      record { within = room; sealed = named.0.sealed },
      named_frame s (arc_value d.origin).state n h.said (bytes_from d first) named.0 named.1,
    )

-- the same, if the place and the layout are read from further owners of what's said
pub lies_shared : (n : Name) (d owned sized : Said) (s : Format) (m : Option (List Value))
    → owned ≡ d → sized ≡ d → s ≡ layout_in (arc_value d.origin) → SpelledIsRead s
    → n.to < (layout_in (arc_value d.origin)).nodes → n.copy ≡ 0 → (h : IsToAll n.from n.round m d)
    → IsFrameFrom owned (n.to * sized.size)
    × (frame_from owned (n.to * sized.size) ≡ record {
      format = layout_in (arc_value d.origin);
      name = n;
      state = (arc_value d.origin).state;
      message = h.said;
    })
lies_shared n d owned sized s m same sizes layout read within original h =
    let said : Frame = record {
      format = layout_in (arc_value d.origin);
      name = n;
      state = (arc_value d.origin).state;
      message = h.said;
    } in
    let lies = lies_to n d m (subst SpelledIsRead layout read) within original h in
    let here : IsFrameFrom owned (n.to * d.size) × (frame_from owned (n.to * d.size) ≡ said) =
    subst (λ (x : Said). IsFrameFrom x (n.to * d.size) × (frame_from x (n.to * d.size) ≡ said))
    (sym same) lies in
    subst (λ (x : Said). IsFrameFrom owned (n.to * x.size)
    × (frame_from owned (n.to * x.size) ≡ said)) (sym sizes) here
