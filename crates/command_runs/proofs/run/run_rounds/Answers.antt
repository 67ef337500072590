use Rattle.std.proofs.lemmas.Result.{IfErr-weaker}
use Rattle.command_words.specs.declared.words.Words.TheVariants.{Rounds}
use Rattle.command_runs.proofs.Serving.{said_as}
use Rattle.command_runs.proofs.Telling.{untold_rounds}
use Rattle.command_runs.proofs.run.run_rounds.Goals as goal
use Rattle.command_runs.specs.Refused.{IsRefusedCommand}

pub returns-clause-served : goal.returns-clause-served
returns-clause-served g c =
    let report = c.in_ok-report.report in
    said_as c.tell_report.result c.tell_report.ensures.said
    (λ said. (said.0, (report, c.in_ok-report.ensures.made, said.1), said.2))

pub returns-clause-refused : goal.returns-clause-refused
returns-clause-refused g c =
    let files = g.D.Desk.files c.args.desk.now in
    let asked = c.args.omitting in
    let form = c.args.form in
    let w = Rounds asked.source asked.header asked.omissions form in
    IfErr-weaker c.tell_report.result _ (IsRefusedCommand w files)
    (untold_rounds asked.source files asked.header asked.omissions form c.in_ok-report.report
    c.in_ok-report.ensures.made) c.tell_report.ensures.refused
