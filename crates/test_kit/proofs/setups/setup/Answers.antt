use Rattle.std.proofs.Common.{◌≡◌, Err, sym, ap, subst}
use Rattle.std.specs.Result.{IsErrAnd}
use Rattle.test_kit.proofs.setups.setup.Goals as goal

pub returns-in_err-inputs-clause-unreadable : goal.returns-in_err-inputs-clause-unreadable
returns-in_err-inputs-clause-unreadable c err s is =
    let same = subst (λ r. IsErrAnd r (λ e. e ≡ c.in_err-inputs.field-0.0)) err
    c.from_residual.ensures.1 in
    c.in_err-inputs.ensures.unreadable (ap Err (sym same)) s.inputs is.inputs
