use Rattle.std.proofs.Common.{◌≡◌, subst, sym}
use Rattle.std.specs.Prelude.{string_bytes}
use Rattle.std.proofs.lemmas.Result.{IfErr-weaker}
use Rattle.command_words.specs.declared.words.Words.TheVariants.{Show}
use Rattle.command_runs.proofs.Refusing.{err_then}
use Rattle.command_runs.proofs.Wholes.{show_refused}
use Rattle.command_runs.proofs.showing.show_source.Goals as goal
use Rattle.command_runs.specs.Refused.{IsRefusedCommand}
use Rattle.command_runs.specs.declared.refusal.Refusal.TheVariants.{Write}

pub returns-in_err-text-clause-refused : goal.returns-in_err-text-clause-refused
returns-in_err-text-clause-refused g c =
    let files = g.D.Desk.files c.args.desk.now in
    let fault = c.in_err-text.field-0.0 in
    let cause = IsRefusedCommand (Show c.args.source) files in
    err_then c.from_residual.result (λ r. r ≡ fault) cause c.from_residual.ensures.1
    (λ r is. subst cause (sym is)
    (show_refused c.args.source files fault c.in_err-text.ensures.refused))

pub returns-clause-refused : goal.returns-clause-refused
returns-clause-refused g c =
    let files = g.D.Desk.files c.args.desk.now in
    let w = Show c.args.source in
    IfErr-weaker c.written.result (λ r. r ≡ Write) (IsRefusedCommand w files)
    (λ r e. subst (IsRefusedCommand w files) (sym e)
    (files, string_bytes c.in_ok-text.text, c.in_ok-text.ensures.shown)) c.written.ensures.refused
