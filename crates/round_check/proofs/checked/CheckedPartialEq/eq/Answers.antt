use Rattle.round_lang.specs.Equality.{is_same_answer}
use Rattle.round_check.proofs.checked.CheckedPartialEq.eq.Goals as goal

pub returns : goal.returns
returns c = is_same_answer _ _ _ _ c.same.ensures
