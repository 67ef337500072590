use Rattle.round_lang.proofs.Whole.{formula_of, no_formula}
use Rattle.round_lang.proofs.parsing.parse_formula.Goals as goal

pub returns-in-Ok-clause-found : goal.returns-in-Ok-clause-found
returns-in-Ok-clause-found c =
    formula_of _ _ _ c.in_ok-tokens.ensures.found (rw c.deref.ensures.value at c.in-Ok.ensures)

pub returns-clause-refused : goal.returns-clause-refused
returns-clause-refused c one other = no_formula _ _ c.in_ok-tokens.ensures.only _
    (rw c.fault_of_text.ensures at one) (rw c.deref.ensures.value at c.in-Err.ensures)
