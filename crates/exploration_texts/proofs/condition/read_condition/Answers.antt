use Rattle.std.proofs.Common.{◌≡◌, Err, ap, subst, sym}
use Rattle.exploration_texts.specs.Conditions.{IsNoCondition, of_source}
use Rattle.exploration_texts.proofs.Refusing.{err_then, no_formula}
use Rattle.exploration_texts.proofs.condition.read_condition.Goals as goal

pub returns-in_err-formula-clause-refused : goal.returns-in_err-formula-clause-refused
returns-in_err-formula-clause-refused c =
    let p = c.args.program.now in
    let text = c.args.text.now in
    let fault = c.in_err-formula.field-0.0 in
    err_then c.from_residual.result (λ r. r ≡ of_source fault) (IsNoCondition p text)
    c.from_residual.ensures.1 (λ r is. subst (IsNoCondition p text) (sym is)
    (no_formula p text fault c.in_err-formula.ensures.refused
    (λ e. c.in_err-formula.ensures.long.0 (ap Err e))))
