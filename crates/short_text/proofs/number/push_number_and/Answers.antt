use Rattle.std.proofs.Common.{◌∙◌, arith}
use Rattle.short_text.proofs.Decimals.{digit_and}
use Rattle.short_text.proofs.number.push_number_and.Goals as goal

pub returns-then-number-lt10-clause-text : goal.returns-then-number-lt10-clause-text
returns-then-number-lt10-clause-text c =
    c.push_two.ensures.text
    ∙ digit_and c.args.text.now c.args.number c.args.end (omega (arith, c.if-number-lt10.true))
