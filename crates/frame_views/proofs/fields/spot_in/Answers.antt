use Rattle.std.proofs.Common.{ℕ, ◌≡◌, ◌≤◌, ◌∙◌, ap, arith, drop, get_or, length, take}
use Rattle.round_lang.specs.declared.kind.Kind.TheVariants as kind
use Rattle.frame_format.specs.Formats.{size, width}
use Rattle.frame_format.specs.Reading.{field_at}
use Rattle.frame_views.proofs.Located.{no_spot, size-take-le, spot_is, spot_room}
use Rattle.frame_views.proofs.fields.spot_in.Goals as goal

pub size_of-first-requires : goal.size_of-first-requires
size_of-first-requires c = omega (arith, size-take-le c.args.kinds.now c.args.place)

pub from_place-requires : goal.from_place-requires
from_place-requires c = omega (arith, size-take-le c.args.kinds.now c.args.place)

pub returns-then-place-kinds-clause-value : goal.returns-then-place-kinds-clause-value
returns-then-place-kinds-clause-value c =
    let kinds = c.args.kinds.now in
    let body = c.args.bytes.now in
    let i = c.args.place in
    let is : c.from_place.result.now ≡ drop (size (take i kinds)) body = c.from_place.ensures
    ∙ ap (λ (n : ℕ). drop n body) c.size_of-first.ensures in
    ap (field_at (get_or kinds i kind.Num)) is ∙ spot_is kinds body i c.if-place-kinds.true

pub returns-then-place-kinds-clause-room : goal.returns-then-place-kinds-clause-room
returns-then-place-kinds-clause-room c =
    let kinds = c.args.kinds.now in
    let body = c.args.bytes.now in
    let i = c.args.place in
    let is : c.from_place.result.now ≡ drop (size (take i kinds)) body = c.from_place.ensures
    ∙ ap (λ (n : ℕ). drop n body) c.size_of-first.ensures in
    let room : width (get_or kinds i kind.Num) ≤ length (drop (size (take i kinds)) body) =
    spot_room kinds body i c.if-place-kinds.true c.requires.room in
    omega (arith, ap length is)

pub returns-else-place-kinds-clause-value : goal.returns-else-place-kinds-clause-value
returns-else-place-kinds-clause-value c =
    no_spot c.args.kinds.now c.args.bytes.now c.args.place (omega arith)
