use Rattle.std.proofs.Common.{◌≡◌, refl, subst, sym}
use Rattle.std.proofs.lemmas.Result.{IfErr-weaker}
use Rattle.command_words.specs.declared.words.Words.TheVariants.{Check}
use Rattle.command_runs.proofs.Serving.{printed, program_of}
use Rattle.command_runs.proofs.run.check_source.Goals as goal
use Rattle.command_runs.specs.Refused.{IsRefusedCommand}
use Rattle.command_runs.specs.Served.{summary_as}
use Rattle.command_runs.specs.declared.refusal.Refusal.TheVariants.{Write}

pub returns-clause-served : goal.returns-clause-served
returns-clause-served g c =
    let p = c.in_ok-program.program in
    let files = g.D.Desk.files c.args.desk.now in
    let is = program_of c.args.source files c.in_ok-opened.opened 1 0 p
    c.in_ok-opened.ensures.opened c.in_ok-program.ensures.program in
    printed c.written.result c.write_declared.result _ _ _ (summary_as c.args.format p)
    c.written.ensures.done
    c.write_declared.ensures c.written.ensures.kept
    (λ wrote. (summary_as c.args.format p, (p, is, refl), wrote))

pub returns-clause-refused : goal.returns-clause-refused
returns-clause-refused g c =
    let p = c.in_ok-program.program in
    let files = g.D.Desk.files c.args.desk.now in
    let is = program_of c.args.source files c.in_ok-opened.opened 1 0 p
    c.in_ok-opened.ensures.opened c.in_ok-program.ensures.program in
    let w = Check c.args.source c.args.format in
    IfErr-weaker c.written.result (λ r. r ≡ Write) (IsRefusedCommand w files)
    (λ r e. subst (IsRefusedCommand w files) (sym e)
    (files, summary_as c.args.format p, (p, is, refl))) c.written.ensures.refused
