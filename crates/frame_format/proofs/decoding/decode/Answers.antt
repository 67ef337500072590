use Rattle.std.proofs.Common.{◌≡◌, List, ℕ, ap, sym, subst, ◌∙◌, refl, drop}
use Rattle.round_lang.specs.declared.value.Value.{Value}
use Rattle.frame_format.specs.declared.frame.Frame.{Frame}
use Rattle.frame_format.specs.declared.version.FrameVersion.{FrameVersion}
use Rattle.frame_format.specs.Formats.{Format, kinds_at}
use Rattle.frame_format.specs.Places.{copy_at, from_at, head_at, round_at, to_at, version_at}
use Rattle.frame_format.specs.Spelling.{Spells}
use Rattle.frame_format.specs.Reading.{fields_at, frame_at}
use Rattle.frame_format.proofs.decoding.decode.Goals as goal

read : (s : Format) (bytes : List ℕ) (from to round copy : ℕ) (v : FrameVersion) (m : List Value)
    (rest : List ℕ) → from ≡ from_at bytes → to ≡ to_at bytes → round ≡ round_at bytes
    → v ≡ version_at bytes → copy ≡ copy_at bytes → m ≡ fields_at (kinds_at s round) rest
    → rest ≡ drop (head_at bytes) bytes
    → frame_at s bytes ≡ record {
      from = from;
      to = to;
      round = round;
      version = v;
      copy = copy;
      message = m;
    }
unfolding frame_at
read s bytes from to round copy v m rest a b c d e f g =
    let message : m ≡ fields_at (kinds_at s (round_at bytes)) (drop (head_at bytes) bytes) = f
    ∙ ap (λ (r : ℕ). fields_at (kinds_at s r) rest) c
    ∙ ap (fields_at (kinds_at s (round_at bytes))) g in
    rw (a, b, c, d, e, message) refl

pub returns-clause-found : goal.returns-clause-found
returns-clause-found c =
    let is = read c.args.layout.now c.args.bytes.now c.from_of.result c.to_of.result
    c.round_of-round.result c.copy_of.result c.version_of.result c.in_ok-message.message
    c.fields_in.result.now c.from_of.ensures c.to_of.ensures c.round_of-round.ensures
    c.version_of.ensures c.copy_of.ensures c.in_ok-message.ensures c.fields_in.ensures in
    subst (λ (f : Frame). Spells c.args.layout.now c.args.bytes.now f) is
    c.in_default.ensures.found.spelled

pub returns-clause-only : goal.returns-clause-only
returns-clause-only c = λ f h.
    let is = read c.args.layout.now c.args.bytes.now c.from_of.result c.to_of.result
    c.round_of-round.result c.copy_of.result c.version_of.result c.in_ok-message.message
    c.fields_in.result.now c.from_of.ensures c.to_of.ensures c.round_of-round.ensures
    c.version_of.ensures c.copy_of.ensures c.in_ok-message.ensures c.fields_in.ensures in
    sym is ∙ (c.first_fault.ensures.only f h).frame_is
