use Rattle.std.proofs.Common.{◌≡◌, List, subst, sym, ℕ}
use Rattle.std.specs.Prelude.{string_bytes}
use Rattle.command_runs.proofs.Refusing.{err_then, no_file_program, no_source_text}
use Rattle.command_runs.proofs.sources.program_in.Goals as goal
use Rattle.command_runs.specs.Refused.{IsNoProgram}
use Rattle.command_runs.specs.Sources.{SpellsTyped}
use Rattle.command_runs.specs.Stages.{IsNoProgramOf}

pub returns-clause-spelled : goal.returns-clause-spelled
returns-clause-spelled g c =
    subst (λ (t : List ℕ). SpellsTyped t c.in_ok-program.program) c.as_str.ensures.value
    c.in_ok-program.ensures.program

pub returns-in_err-program-clause-refused : goal.returns-in_err-program-clause-refused
returns-in_err-program-clause-refused g c =
    let file = g.D.Desk.files c.args.desk.now c.args.name.now in
    let text = string_bytes c.in_ok-text.text in
    let fault = c.in_err-program.field-0.0 in
    err_then c.from_residual-in_err-program.result (λ r. r ≡ fault) (IsNoProgram file)
    c.from_residual-in_err-program.ensures.1
    (λ r is. subst (IsNoProgram file) (sym is)
    (no_file_program file text fault c.in_ok-text.ensures.held
    (subst (λ (t : List ℕ). IsNoProgramOf t fault) c.as_str.ensures.value
    c.in_err-program.ensures.refused)))

pub returns-in_err-text-clause-refused : goal.returns-in_err-text-clause-refused
returns-in_err-text-clause-refused g c =
    let cause = IsNoProgram (g.D.Desk.files c.args.desk.now c.args.name.now) in
    let fault = c.in_err-text.field-0.0 in
    err_then c.from_residual.result (λ r. r ≡ fault) cause c.from_residual.ensures.1
    (λ r is. subst cause (sym is) (no_source_text _ fault c.in_err-text.ensures.refused))
