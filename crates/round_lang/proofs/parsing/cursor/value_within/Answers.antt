use Rattle.round_lang.proofs.Numbers.{value_found, value_below, value_above}
use Rattle.round_lang.proofs.parsing.cursor.value_within.Goals as goal

pub returns-then-value-least : goal.returns-then-value-least
returns-then-value-least c = value_below _ _ c.requires.last _ _ c.value_of-value.ensures
    c.requires.first c.if-value-least.true

pub returns-then-most-value : goal.returns-then-most-value
returns-then-most-value c =
    value_above _ _ c.requires.last _ _ c.value_of-value.ensures c.if-most-value.true

pub returns : goal.returns
returns c = value_found _ _ c.requires.last _ _ c.value_of-value.ensures c.if-value-least.false
    c.if-most-value.false
