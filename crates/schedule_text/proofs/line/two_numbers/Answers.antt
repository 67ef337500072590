use Rattle.std.proofs.Common.{◌∙◌, sym}
use Rattle.schedule_text.proofs.Fronts.{not_two}
use Rattle.schedule_text.proofs.line.two_numbers.Goals as goal

pub returns-then-is_some : goal.returns-then-is_some
returns-then-is_some c =
    not_two c.args.text.now c.in_ok-first.first.rest c.in_ok-second.second.rest
    c.in_ok-first-2.field-0 c.in_ok-first.ensures.1 c.in_ok-first-2.was c.in_ok-second.ensures.1
    (sym c.is_some.ensures ∙ c.if-is_some.true)
