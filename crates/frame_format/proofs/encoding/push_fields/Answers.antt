use Rattle.std.proofs.Common.{◌≡◌, ◌<◌, ◌≤◌, length, arith, refl}
use Rattle.round_lang.specs.declared.kind.Kind.TheVariants as kind
use Rattle.round_lang.specs.declared.value.Value.TheVariants.{Num}
use Rattle.round_lang.specs.Values.{at}
use Rattle.round_lang.specs.Words.{IsSmall}
use Rattle.frame_format.specs.Spelling.{field}
use Rattle.frame_format.proofs.Pieces.{all_all, all_more, length-values, pieces_all, pieces_more}
use Rattle.frame_format.proofs.Pieces.{value_of_kind, width_within}
use Rattle.frame_format.proofs.encoding.push_fields.Goals as goal

pub push_field-requires-clause-small : goal.push_field-requires-clause-small
push_field-requires-clause-small c =
    omega (arith, width_within c.args.kinds.now c.loop-place.place kind.Num c.loop-place-test.true)

pub push_field-requires-clause-value : goal.push_field-requires-clause-value
push_field-requires-clause-value c =
    value_of_kind c.args.values c.args.kinds.now c.args.message.now c.loop-place.place kind.Num
    (Num 0) c.requires.message c.loop-place-test.true

pub loop-place-preserved : goal.loop-place-preserved
loop-place-preserved c =
    let message = c.args.message.now in
    let i = c.loop-place.place in
    let len : length message ≡ length c.args.kinds.now =
    length-values c.args.values c.args.kinds.now message c.requires.message in
    let within : i < length message = omega arith in
    record {
      bytes = pieces_more field c.args.out.now.items c.loop-place.out.items
          c.push_field.new.out.items message i (Num 0)
          (at message i) within refl c.loop-place.invariant.bytes c.in_ok-push_field.ensures.bytes;
      small = all_more IsSmall message i (Num 0) (at message i) within refl
          c.loop-place.invariant.small c.in_ok-push_field.ensures.small;
    }

pub returns-clause-bytes : goal.returns-clause-bytes
returns-clause-bytes c =
    let message = c.args.message.now in
    let len : length message ≡ length c.args.kinds.now =
    length-values c.args.values c.args.kinds.now message c.requires.message in
    let past : length message ≤ c.loop-place.place = omega arith in
    pieces_all field c.args.out.now.items c.loop-place.out.items message c.loop-place.place past
    c.loop-place.invariant.bytes

pub returns-clause-small : goal.returns-clause-small
returns-clause-small c =
    let message = c.args.message.now in
    let len : length message ≡ length c.args.kinds.now =
    length-values c.args.values c.args.kinds.now message c.requires.message in
    let past : length message ≤ c.loop-place.place = omega arith in
    all_all IsSmall message c.loop-place.place past c.loop-place.invariant.small
