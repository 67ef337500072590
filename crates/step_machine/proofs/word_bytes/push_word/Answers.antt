use Rattle.std.proofs.Common.{◌∙◌, ◌/◌, ap, subst, sym}
use Rattle.step_machine.specs.StoredStates.{words_in, IsWhole}
use Rattle.step_machine.proofs.Leb128.{IsBegun, begun-whole, begun-more, whole-last, words-last}
use Rattle.step_machine.proofs.word_bytes.push_word.Goals as goal

pub loop-left-init : goal.loop-left-init
loop-left-init c = begun-whole c.args.bytes.now.items c.args.word c.requires

pub loop-left-preserved : goal.loop-left-preserved
loop-left-preserved c =
    let words = words_in c.args.bytes.now.items in
    let left = c.loop-left.left in
    subst (λ bytes. IsBegun words c.args.word bytes (left / 128)) (sym c.in_ok-push.ensures.ok)
    (begun-more words c.args.word c.loop-left.bytes.items left c.ranges.word.fits
    c.loop-left-test.true c.loop-left.invariant)

pub returns-clause-whole : goal.returns-clause-whole
returns-clause-whole c =
    subst IsWhole (sym c.in_ok-push-2.ensures.ok)
    (whole-last _ c.args.word c.loop-left.bytes.items c.loop-left.left c.ranges.word.fits
    c.loop-left-test.false c.loop-left.invariant)

pub returns-clause-words : goal.returns-clause-words
returns-clause-words c =
    ap words_in c.in_ok-push-2.ensures.ok
    ∙ words-last _ c.args.word c.loop-left.bytes.items c.loop-left.left c.ranges.word.fits
    c.loop-left-test.false c.loop-left.invariant
