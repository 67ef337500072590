use Rattle.std.proofs.Common.{◌∙◌, sym}
use Rattle.schedule_text.proofs.Fronts.{not_one}
use Rattle.schedule_text.proofs.line.one_number.Goals as goal

pub returns-then-is_some : goal.returns-then-is_some
returns-then-is_some c = not_one c.args.text.now c.in-Some.front.rest c.in-Some.ensures.1
    (sym c.is_some.ensures ∙ c.if-is_some.true)
