use Rattle.std.proofs.Common.{◌≡◌, Err, ap, subst, sym}
use Rattle.command_runs.proofs.Refusing.{err_then, no_check, no_source}
use Rattle.command_runs.proofs.sources.checked.Goals as goal
use Rattle.command_runs.specs.Refused.{of_check, of_source}
use Rattle.command_runs.specs.Stages.{IsNoProgramOf}

pub returns-in_err-parse-clause-refused : goal.returns-in_err-parse-clause-refused
returns-in_err-parse-clause-refused c =
    let text = c.args.text.now in
    let fault = c.in_err-parse.field-0.0 in
    err_then c.from_residual.result (λ r. r ≡ of_source fault) (IsNoProgramOf text)
    c.from_residual.ensures.1
    (λ r is. subst (IsNoProgramOf text) (sym is)
    (no_source text fault c.in_err-parse.ensures.refused
    (λ e. c.in_err-parse.ensures.long.0 (ap Err e))))

pub returns-in_err-check-clause-refused : goal.returns-in_err-check-clause-refused
returns-in_err-check-clause-refused c =
    let text = c.args.text.now in
    let fault = c.in_err-check.field-0.0 in
    err_then c.from_residual-in_err-check.result (λ r. r ≡ of_check fault) (IsNoProgramOf text)
    c.from_residual-in_err-check.ensures.1
    (λ r is. subst (IsNoProgramOf text) (sym is)
    (no_check _ text c.in_ok-parse.field-0 fault c.in_ok-parse.ensures.found
    c.in_err-check.ensures.fault c.in_err-check.ensures.memory_alone))
