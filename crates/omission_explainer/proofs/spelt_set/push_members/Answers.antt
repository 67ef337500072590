use Rattle.std.proofs.Common.{◌∙◌, ◌<◌, length, ap, arith}
use Rattle.round_lang.specs.Sets.{members, minus}
use Rattle.omission_explainer.proofs.Members.{least_small, one_more, size_small, with_comma}
use Rattle.omission_explainer.proofs.Members.{with_none}
use Rattle.omission_explainer.proofs.spelt_set.push_members.Goals as goal
use Rattle.omission_explainer.proofs.spelt_set.push_members.Goals.{then-place-gt0, else-place-gt0}

pub push-requires : goal.push-requires
push-requires c =
    let few = size_small c.args.set.bits in
    omega (
      arith,
      few,
      c.size-place-end.ensures,
      c.requires,
      c.loop-place.invariant.short,
      c.loop-place-test.true,
    )

pub push_digits-requires-clause-small : goal.push_digits-requires-clause-small
push_digits-requires-clause-small c = omega (
  arith,
  c.least-member.ensures,
  least_small c.loop-place.rest.bits,
)

pub push_digits-requires-clause-room : goal.push_digits-requires-clause-room
push_digits-requires-clause-room c =
    let few = size_small c.args.set.bits in
    elim c.if-place-gt0.branch [
      | then-place-gt0 w ↦ omega (
        arith,
        few,
        c.size-place-end.ensures,
        c.requires,
        c.loop-place.invariant.short,
        c.loop-place-test.true,
        w.push.ensures.long,
        ap length w.text-is,
      )
      | else-place-gt0 w ↦ omega (
        arith,
        few,
        c.size-place-end.ensures,
        c.requires,
        c.loop-place.invariant.short,
        c.loop-place-test.true,
        ap length w.text-is,
      )
    ]

pub loop-place-preserved : goal.loop-place-preserved
loop-place-preserved c =
    let first = c.args.text.now in
    let ms = members c.args.set.bits in
    let i = c.loop-place.place in
    let rest = c.loop-place.rest.bits in
    let text = c.loop-place.text in
    let next = c.if-place-gt0.text in
    let below : i < length ms = omega (arith, c.size-place-end.ensures, c.loop-place-test.true) in
    let after = c.minus-rest.ensures ∙ ap (minus rest) c.single.ensures in
    elim c.if-place-gt0.branch [
      | then-place-gt0 w ↦
          let joined = with_comma first ms i rest text c.loop-place.invariant below next
          w.if-place-gt0.true (w.text-is ∙ w.push.ensures.text) in
          one_more first ms i rest text c.loop-place.invariant below _ _ next _
          c.least-member.ensures after joined c.push_digits.ensures.text
          (omega (
            arith,
            c.loop-place.invariant.short,
            c.push_digits.ensures.short,
            w.push.ensures.long,
            ap length w.text-is,
          ))
      | else-place-gt0 w ↦
          let joined = with_none first ms i rest text c.loop-place.invariant below next
          (omega (arith, w.if-place-gt0.false)) w.text-is in
          one_more first ms i rest text c.loop-place.invariant below _ _ next _
          c.least-member.ensures after joined c.push_digits.ensures.text
          (omega (
            arith,
            c.loop-place.invariant.short,
            c.push_digits.ensures.short,
            ap length w.text-is,
          ))
    ]

pub returns-clause-short : goal.returns-clause-short
returns-clause-short c =
    let few = size_small c.args.set.bits in
    omega (
      arith,
      few,
      c.size-place-end.ensures,
      c.loop-place.invariant.short,
      c.loop-place.auto.place-end,
    )
