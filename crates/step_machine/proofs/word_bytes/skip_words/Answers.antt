use Rattle.std.proofs.Common.{◌∙◌, ap, drop, sym}
use Rattle.step_machine.specs.StoredStates.{words_in}
use Rattle.step_machine.proofs.Leb128.{passed_more}
use Rattle.step_machine.proofs.word_bytes.skip_words.Goals as goal

pub loop-ahead-preserved : goal.loop-ahead-preserved
loop-ahead-preserved c =
    sym (passed_more c.loop-ahead.ahead c.in-Some.byte.now c.in-Some.behind.now
    c.loop-ahead-test.true c.if-byte-lt128.false)
    ∙ ap (λ bytes. drop c.loop-ahead.ahead (words_in bytes)) (sym c.in-Some.ensures.cases.0)
    ∙ c.loop-ahead.invariant
