use Rattle.std.proofs.Common.{ℕ, List, [], ◌∷◌, ◌++◌, ◌/◌, ◌%◌, ◌+◌, ◌∙◌, ap, arith}
use Rattle.short_text.proofs.Decimals.{two_more}
use Rattle.short_text.proofs.number.push_long.Goals as goal

pub returns-then-number-lt10000-clause-text : goal.returns-then-number-lt10000-clause-text
returns-then-number-lt10000-clause-text c =
    let n = c.args.number in
    c.push_two.ensures.text
    ∙ ap (λ (text : List ℕ). text ++ (48 + n % 100 / 10) ∷ (48 + n % 100 % 10) ∷ [])
    c.push_digits-then-number-lt10000.ensures.text
    ∙ two_more c.args.text.now n (omega (arith, c.if-number-lt100.false)) c.ranges.number.fits
