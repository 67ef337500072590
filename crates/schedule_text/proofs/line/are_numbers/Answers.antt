use Rattle.std.proofs.Common.{rules}
use Rattle.std.proofs.lemmas.Iterator.Search.{all_from_yields_List}
use Rattle.std.proofs.lemmas.Iterator.Splits.{YieldsList-from_slice_split}
use Rattle.std.proofs.Common.{eqb}
use Rattle.schedule_text.specs.Numbers.{is_number}
use Rattle.schedule_text.proofs.line.are_numbers.Goals as goal

pub returns : goal.returns
returns c =
    all_from_yields_List is_number _ _ _ c.all.ensures.ran
    (YieldsList-from_slice_split _ (λ b. eqb b 32) c.args.text.now c.split.ensures.rest
    c.split.ensures.done c.split.ensures.closure (λ x b q k. search rules))
    (λ x b q k. search rules)
