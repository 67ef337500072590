use Rattle.std.proofs.lemmas.Result.{err_from_is_err_and}
use Rattle.part_answers.specs.Answers.{answers_text}
use Rattle.part_answers.specs.Parts.{head_of}
use Rattle.part_answers.proofs.ReadLemmas.{no_part, only_part, part_begins}
use Rattle.part_answers.proofs.reading.read_part.Goals as goal

pub returns-in_default-clause-err : goal.returns-in_default-clause-err
returns-in_default-clause-err c = λ p is same.
    c.in_default.ensures.none (head_of p) (answers_text p.answers.items)
    (part_begins c.args.text.now p is same)

pub returns-in_err-read_answers-clause-err : goal.returns-in_err-read_answers-clause-err
returns-in_err-read_answers-clause-err c =
    let p = err_from_is_err_and c.from_residual.result c.from_residual.ensures.1 in
    rw (p.1, p.2) (no_part c.args.text.now c.in-Some.head c.in-Some.rest.now
    c.in_err-read_answers.field-0.0 c.in-Some.ensures.some c.in_err-read_answers.ensures.err)

pub returns-clause-only : goal.returns-clause-only
returns-clause-only c = λ p is same.
    let all = only_part c.args.text.now c.in-Some.head c.in-Some.rest.now
    c.in_ok-read_answers.field-0.items c.in-Some.ensures.some c.in_ok-read_answers.ensures.ok p is
    same in
    record { part = all.0; question = all.1; answers = all.2 }
