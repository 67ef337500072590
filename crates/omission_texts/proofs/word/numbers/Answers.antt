use Rattle.std.specs.Borrow.{Bor}
use Rattle.std.proofs.Common.{ℕ, ◌<◌, length, List, [], arith, get_or}
use Rattle.std.proofs.lemmas.Result.{err_from_is_err_and}
use Rattle.schedule_text.specs.Numbers.{value_of}
use Rattle.omission_texts.proofs.Sizes.{length-values, number_at, taken_all, taken_fault}
use Rattle.omission_texts.proofs.Sizes.{taken_more, value_at, values}
use Rattle.omission_texts.proofs.word.numbers.Goals as goal

pub number-requires : goal.number-requires
number-requires c = number_at c.args.words.now c.loop-word.word-index _ c.requires
    c.loop-word-test.true

pub loop-word-preserved : goal.loop-word-preserved
loop-word-preserved c =
    let ws = c.args.words.now in
    let i = c.loop-word.word-index in
    let d : Bor (List ℕ) = record { ref_ptr = (0, 0); now = [] } in
    let lt : i < length (values ws) = omega (arith, c.loop-word-test.true, length-values ws) in
    let t = taken_more (values ws) i c.loop-word.numbers.items (value_of (get_or ws i d).now)
    c.in_ok-number.field-0 lt (value_at ws i d c.loop-word-test.true) c.loop-word.invariant
    c.in_ok-number.ensures in
    rw c.in_ok-push.ensures.items t

pub returns-in_err-number : goal.returns-in_err-number
returns-in_err-number c =
    let ws = c.args.words.now in
    let i = c.loop-word.word-index in
    let d : Bor (List ℕ) = record { ref_ptr = (0, 0); now = [] } in
    let lt : i < length (values ws) = omega (arith, c.loop-word-test.true, length-values ws) in
    let p = err_from_is_err_and c.from_residual.result c.from_residual.ensures.1 in
    rw (p.1, p.2) (taken_fault (values ws) i (value_of (get_or ws i d).now)
    c.in_err-number.field-0.0 lt (value_at ws i d c.loop-word-test.true)
    c.in_err-number.ensures)

pub returns : goal.returns
returns c =
    let ws = c.args.words.now in
    taken_all (values ws) c.loop-word.word-index c.loop-word.numbers.items
    (omega (arith, c.loop-word-test.false, c.loop-word.auto.word-index-end, length-values ws))
    c.loop-word.invariant
