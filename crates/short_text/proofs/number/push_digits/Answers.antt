use Rattle.std.proofs.Common.{◌∙◌, arith}
use Rattle.short_text.proofs.Decimals.{one_digit, two_digits}
use Rattle.short_text.proofs.number.push_digits.Goals as goal

pub returns-then-number-lt10-clause-text : goal.returns-then-number-lt10-clause-text
returns-then-number-lt10-clause-text c =
    c.push.ensures.text
    ∙ one_digit c.args.text.now c.args.number (omega (arith, c.if-number-lt10.true))

pub returns-else-number-lt10-clause-text : goal.returns-else-number-lt10-clause-text
returns-else-number-lt10-clause-text c =
    c.push_two.ensures.text
    ∙ two_digits c.args.text.now c.args.number (omega (arith, c.if-number-lt10.false))
    c.requires.small
