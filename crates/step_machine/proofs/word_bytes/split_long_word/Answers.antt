use Rattle.std.proofs.Common.{◌∙◌, ◌∷◌, ap, sym}
use Rattle.step_machine.specs.StoredStates.{words_from}
use Rattle.step_machine.proofs.word_bytes.split_long_word.Goals as goal

pub returns-in-Some-take-clause-some : goal.returns-in-Some-take-clause-some
returns-in-Some-take-clause-some c =
    let begun = c.loop-byte.begun in
    let word = c.in-Some-take.word in
    let behind = c.in-Some.behind.now in
    let whole = c.in-Some-take.ensures.whole in
    sym c.loop-byte.invariant ∙ ap (words_from begun.weight begun.value) c.in-Some.ensures.cases.0
    ∙ c.in-Some-take.ensures.reads behind
    ∙ ap (λ v. word ∷ words_from c.take.new.self.weight v behind) whole.0
    ∙ ap (λ w. word ∷ words_from w 0 behind) whole.1
