use Rattle.std.proofs.Common.{◌≡◌, ◌∙◌, List, Some, ap, subst, sym, ℕ}
use Rattle.schedule_text.specs.Readers.{HasReadHeader}
use Rattle.schedule_text.specs.declared.kind.Kind.TheVariants as kinds
use Rattle.command_runs.proofs.Refusing.{err_then, no_schedule}
use Rattle.command_runs.proofs.drawing.open_text.Goals as goal
use Rattle.command_runs.specs.Refused.{IsMissing, of_text}

pub returns-in_err-reader-clause-refused : goal.returns-in_err-reader-clause-refused
returns-in_err-reader-clause-refused c =
    let text = c.args.text.now in
    let fault = c.in_err-reader.field-0.0 in
    let cause = IsMissing kinds.Schedule (Some text) in
    err_then c.from_residual-in_err-reader.result (λ r. r ≡ of_text fault) cause
    c.from_residual-in_err-reader.ensures.1
    (λ r is. subst cause (sym is) (no_schedule (Some text) _ fault
    (ap (λ (t : List ℕ). Some t) (c.in_ok-file.ensures ∙ c.as_bytes.ensures.value))
    c.in_err-reader.ensures.refused))

pub returns-clause-opened : goal.returns-clause-opened
returns-clause-opened c =
    let o = c.in_ok-reader in
    subst (λ (t : List ℕ). HasReadHeader t o.setup o.plan o.reader)
    (c.in_ok-file.ensures ∙ c.as_bytes.ensures.value) o.ensures.opened
