use Rattle.std.proofs.Common.{◌∙◌, [], sym}
use Rattle.std.proofs.lemmas.Result.{on_ok_weaker}
use Rattle.round_check.proofs.spelling.put_formula.Goals as goal

pub returns : goal.returns
returns c =
    on_ok_weaker c.put.result (λ last rest. rw (sym c.expr.ensures.tree)
    (last rest ∙ c.in_ok-put_words.ensures [] rest)) c.put.ensures
