use Rattle.round_lang.proofs.Whole.{one_formula_of}
use Rattle.round_lang.proofs.laws.a_text_is_one_formula.Goals as goal

pub returns : goal.returns
returns c = one_formula_of
