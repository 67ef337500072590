use Rattle.std.proofs.Common.{◌∙◌}
use Rattle.schedule_text.proofs.Inputs.{gives_fault, large}
use Rattle.schedule_text.proofs.line.all_numbers.Goals as goal

pub returns-then-front-gt-MAX_NUMBER : goal.returns-then-front-gt-MAX_NUMBER
returns-then-front-gt-MAX_NUMBER c =
    gives_fault c.too_large.result _
    (large _ c.numbers.rest.now c.args.text.now c.numbers.invariant c.in-Some.front.value
    c.in-Some.ensures.0 c.in-Some.front.rest c.in-Some.ensures.1 c.if-front-gt-MAX_NUMBER.true
    ∙ rw c.too_large.ensures)
