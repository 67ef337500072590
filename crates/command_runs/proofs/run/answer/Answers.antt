use Rattle.std.proofs.lemmas.Result.{IfErr-weaker}
use Rattle.command_runs.proofs.Serving.{said_as}
use Rattle.command_runs.proofs.Telling.{untold}
use Rattle.command_runs.proofs.run.answer.Goals as goal
use Rattle.command_runs.specs.Stages.{IsRefusedAnswer}

pub returns-clause-served : goal.returns-clause-served
returns-clause-served g c =
    said_as c.tell_answer.result c.tell_answer.ensures.said
    (λ said. (c.in_ok-answer.answer, c.in_ok-answer.ensures.answer, said))

pub returns-clause-refused : goal.returns-clause-refused
returns-clause-refused g c =
    let files = g.D.Desk.files c.args.desk.now in
    let run = c.args.run in
    let file = files run.schedule.now in
    let cause = IsRefusedAnswer run.source files file c.args.question in
    IfErr-weaker c.tell_answer.result _ cause
    (untold run.source files file c.args.question c.in_ok-answer.answer
    c.in_ok-answer.ensures.answer) c.tell_answer.ensures.refused
