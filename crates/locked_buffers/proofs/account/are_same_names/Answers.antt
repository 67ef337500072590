use Rattle.std.proofs.Common.{◌∙◌, refl, sym}
use Rattle.locked_buffers.proofs.Alike.{same_all, same_more, unlike_here}
use Rattle.locked_buffers.proofs.account.are_same_names.Goals as goal

pub returns-then-not-is_same_name : goal.returns-then-not-is_same_name
returns-then-not-is_same_name c =
    unlike_here c.args.left.now c.args.right.now c.loop-place.place c.index-left-place.result
    c.index-right-place.result c.is_same_name.result
    c.loop-place-test.true c.index-right-place.is
    (λ e. c.is_same_name.ensures.1 (c.index-left-place.is ∙ e)) c.if-not-is_same_name.true

pub loop-place-preserved : goal.loop-place-preserved
loop-place-preserved c =
    same_more c.args.left.now c.args.right.now c.loop-place.place c.index-left-place.result
    c.index-right-place.result c.loop-place-test.true
    c.if-left-right.false c.index-right-place.is (sym c.index-left-place.is
    ∙ c.is_same_name.ensures.0 c.if-not-is_same_name.false) c.loop-place.invariant

pub returns : goal.returns
returns c =
    let all = same_all c.args.left.now c.args.right.now c.loop-place.place c.if-left-right.false
    c.loop-place-test.false c.loop-place.invariant in
    (λ x. all, λ h. refl)
