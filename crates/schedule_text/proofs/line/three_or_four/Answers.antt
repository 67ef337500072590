use Rattle.schedule_text.proofs.Fronts.{not_four}
use Rattle.schedule_text.proofs.line.three_or_four.Goals as goal

pub returns-in-Some-rest : goal.returns-in-Some-rest
returns-in-Some-rest c =
    not_four c.args.text.now c.in_ok-first.first.rest c.in_ok-second.second.rest
    c.in_ok-third.third.rest c.in_ok-fourth.fourth.rest c.in_ok-first-2.field-0
    c.in_ok-second-2.field-0 c.in-Some.rest c.in-Some-rest.field-0 c.in_ok-first.ensures.1
    c.in_ok-first-2.was c.in_ok-second.ensures.1 c.in_ok-second-2.was c.in_ok-third.ensures.1
    c.in-Some.is c.in_ok-fourth.ensures.1 c.in-Some-rest.is
