use Rattle.round_lang.proofs.Whole.{one_source}
use Rattle.round_lang.proofs.laws.a_text_is_one_program.Goals as goal

pub returns : goal.returns
returns c = one_source
