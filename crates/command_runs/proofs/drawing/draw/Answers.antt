use Rattle.std.proofs.Common.{◌≡◌, [], subst, sym}
use Rattle.std.proofs.lemmas.Result.{IfErr-weaker}
use Rattle.command_words.specs.declared.words.Words.TheVariants.{Draw}
use Rattle.command_runs.proofs.Drawn.{draw_refused}
use Rattle.command_runs.proofs.Refusing.{err_then}
use Rattle.command_runs.proofs.Serving.{printed}
use Rattle.command_runs.proofs.drawing.draw.Goals as goal
use Rattle.command_runs.specs.Refused.{IsRefusedCommand}
use Rattle.command_runs.specs.declared.refusal.Refusal.TheVariants.{Write}

pub returns-in_err-picture-clause-refused : goal.returns-in_err-picture-clause-refused
returns-in_err-picture-clause-refused g c =
    let run = c.args.run in
    let files = g.D.Desk.files c.args.desk.now in
    let cause = IsRefusedCommand (Draw run.source run.schedule c.args.drawing.now) files in
    let fault = c.in_err-picture.field-0.0 in
    err_then c.from_residual.result (λ r. r ≡ fault) cause c.from_residual.ensures.1
    (λ r is. subst cause (sym is)
    (draw_refused run.source files run.schedule c.args.drawing.now fault
    c.in_err-picture.ensures.refused))

pub returns-clause-served : goal.returns-clause-served
returns-clause-served g c =
    let text = c.as_slice.result.now in
    printed c.written.result c.write_all.result _ _ _ text c.written.ensures.done
    c.write_all.ensures.bytes c.written.ensures.kept
    (λ wrote. (text, c.in_ok-picture.ensures.drawn, wrote))

pub returns-clause-refused : goal.returns-clause-refused
returns-clause-refused g c =
    let files = g.D.Desk.files c.args.desk.now in
    let w = Draw c.args.run.source c.args.run.schedule c.args.drawing.now in
    IfErr-weaker c.written.result (λ r. r ≡ Write) (IsRefusedCommand w files)
    (λ r e. subst (IsRefusedCommand w files) (sym e) (files, [], c.in_ok-picture.ensures.drawn))
    c.written.ensures.refused
