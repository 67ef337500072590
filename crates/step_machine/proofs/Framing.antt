-- Frames, and the bytes that spell them.
use Rattle.std.proofs.Common.{◌≡◌, ℕ, ◌+◌, ◌*◌, ◌-◌, ◌<◌, ◌≤◌, List, length, arith, refl, ap, subst}
use Rattle.std.proofs.Common.{◌∙◌, sym}
use Rattle.std.proofs.Math.Nat.{mul-le-mul_right}
use Rattle.round_lang.specs.declared.value.Value.{Value}
use Rattle.frame_format.specs.declared.frame.Frame.{Frame as Written}
use Rattle.frame_format.specs.declared.version.FrameVersion.{FrameVersion}
use Rattle.frame_format.specs.declared.version.FrameVersion.TheVariants.{V2}
use Rattle.frame_format.specs.Formats.{Format}
use Rattle.frame_format.specs.Headers.{header_size}
use Rattle.frame_format.specs.Places.{copy_at, from_at, head_at, round_at, to_at, version_at}
use Rattle.frame_format.specs.Reading.{SpelledIsRead, frame_at}
use Rattle.frame_format.specs.Spelling.{Spells}
use Rattle.frame_views.specs.Writing.{AreToAll, first_copy, frame_size, nth_frame}
use Rattle.run_events.specs.declared.name.Name.{Name}
use Rattle.step_machine.specs.Sealed.{copied_as}
use Rattle.step_machine.specs.Framing.{IsSealed, frame_in, name_in, wire, written_as}

-- the message that bytes spell, alone
abbrev pub message_at : Format → List ℕ → List Value
message_at s bytes = (frame_at s bytes).message

-- the bytes spell a frame of version 2 that has this name
pub record IsNamed (s : Format) (n : Name) (bytes : List ℕ) : Type 0 where
  pub sealed : IsSealed s bytes
  pub name_is : name_in (frame_at s bytes) ≡ n

-- a frame of version 2, written again
again : (w : Written) → w.version ≡ V2 → w ≡ written_as (name_in w) w.message
again w e = ap (λ (v : FrameVersion). record w { version = v }) e

pub wire_is : (s : Format) (state : List Value) (bytes : List ℕ) → IsSealed s bytes
    → frame_at s bytes ≡ wire (frame_in s state bytes)
wire_is s state bytes h = again (frame_at s bytes) h.second

-- the header's places say the name
pub name_read : (s : Format) (bytes : List ℕ)
    → name_in (frame_at s bytes) ≡ record {
      from = from_at bytes;
      to = to_at bytes;
      round = round_at bytes;
      copy = copy_at bytes;
    }
unfolding frame_at
name_read s bytes = refl

pub long_enough : (s : Format) (bytes : List ℕ) → IsSealed s bytes → 13 ≤ length bytes
unfolding frame_at
long_enough s bytes h =
    let second : version_at bytes ≡ V2 = h.second in
    let head : head_at bytes ≡ 13 = ap header_size second in
    omega (arith, h.frame.all, head)

-- bytes that spell a message under a name are read as that
pub spelled_named : (s : Format) → SpelledIsRead s → (n : Name) (m : List Value) (bytes : List ℕ)
    → Spells s bytes (written_as n m) → IsNamed s n bytes × (message_at s bytes ≡ m)
spelled_named s read n m bytes h =
    let r = read bytes (written_as n m) h in (
      record {
        sealed = record { frame = r.0; second = ap (λ (w : Written). w.version) r.1 };
        name_is = ap name_in r.1;
      },
      ap (λ (w : Written). w.message) r.1,
    )

-- with the copy's number another, they are that copy
pub sealed_copy : (s : Format) (state : List Value) (old new : List ℕ) (k : ℕ) → SpelledIsRead s
    → IsSealed s old
    → ((f : Written) → Spells s old f → f.version ≡ V2 → Spells s new (record f { copy = k }))
    → IsSealed s new × (frame_in s state new ≡ copied_as k (frame_in s state old))
sealed_copy s state old new k read h writes =
    let w = frame_at s old in
    let r = read new (record w { copy = k }) (writes w h.frame.spelled h.second) in (
      record { frame = r.0; second = ap (λ (x : Written). x.version) r.1 ∙ h.second },
      ap (λ (x : Written). record {
        format = s;
        name = name_in x;
        state = state;
        message = x.message;
      }) r.1,
    )

-- one of the frames to all
pub spoken_to : (s : Format) (n : Name) (m : List Value) (bytes : List ℕ) → SpelledIsRead s
    → n.to < s.nodes → n.copy ≡ 0 → AreToAll s n.from n.round m 0 bytes
    → IsNamed s n (nth_frame (frame_size s n.round) bytes n.to)
    × (message_at s (nth_frame (frame_size s n.round) bytes n.to) ≡ m)
spoken_to s n m bytes read within original h =
    spelled_named s read n m (nth_frame (frame_size s n.round) bytes n.to)
    (subst (λ (k : ℕ). Spells s (nth_frame (frame_size s n.round) bytes n.to)
    (written_as (record n { copy = k }) m)) (sym original)
    (subst (λ (to : ℕ). Spells s (nth_frame (frame_size s n.round) bytes n.to)
    (first_copy n.from to n.round m)) (omega arith) (h.each n.to (omega arith))))

-- it lies within the buffer
pub within_all : (s : Format) (from round to : ℕ) (m : List Value) (bytes : List ℕ) → to < s.nodes
    → AreToAll s from round m 0 bytes → to * frame_size s round + frame_size s round ≤ length bytes
within_all s from round to m bytes within h =
    let size = frame_size s round in
    let e : to * size + size ≡ (to + 1) * size = omega arith in
    let most : (to + 1) * size ≤ s.nodes * size = mul-le-mul_right size (omega arith) in
    let whole : s.nodes - 0 ≡ s.nodes = omega arith in
    let long : length bytes ≡ s.nodes * size = h.long ∙ ap (λ (x : ℕ). x * size) whole in
    omega (arith, e, most, long)
