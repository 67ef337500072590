use Rattle.std.proofs.Common.{◌<◌, ◌∙◌, arith, length, sym}
use Rattle.std.proofs.lemmas.Bool.Decides.{nat_tests}
use Rattle.command_words.proofs.ValueLemmas.{digits_tested}
use Rattle.command_words.proofs.values.is_numeral.Goals as goal

pub returns-then-not-is_empty : goal.returns-then-not-is_empty
returns-then-not-is_empty c =
    let tested = digits_tested c.args.text.now in
    let some : 0 < length c.args.text.now = grind (arith, nat_tests) in (
      (λ yes. (some, tested.0 (sym c.has_only_digits.ensures ∙ yes))),
      (λ numeral. c.has_only_digits.ensures ∙ tested.1 numeral.1),
    )
