use Rattle.part_answers.specs.Answers.{answered_text}
use Rattle.part_answers.proofs.CutLemmas.{cut_is, cut_somewhere}
use Rattle.part_answers.proofs.reading.first_answered.Goals as goal

pub returns-in_err-line-clause-none : goal.returns-in_err-line-clause-none
returns-in_err-line-clause-none c =
    rw c.from_residual.ensures (λ a rest begins.
    cut_somewhere 10 c.args.text.now (answered_text a) rest c.in_err-line.ensures begins.cut.0)

pub returns-in_err-answered-clause-none : goal.returns-in_err-answered-clause-none
returns-in_err-answered-clause-none c =
    rw c.from_residual-in_err-answered.ensures (λ a rest begins.
    let parts = cut_is 10 c.args.text.now c.in_ok-line.line.now c.in_ok-line.rest.now
    (answered_text a) rest c.in_ok-line.ensures begins.cut.1 begins.cut.0 in
    c.in_err-answered.ensures.none a begins.answered parts.0)
