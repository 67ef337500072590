use Rattle.std.proofs.Common.{subst}
use Rattle.std.specs.Prelude.{IfSome}
use Rattle.std.proofs.lemmas.Result.{IfErr-weaker}
use Rattle.schedule_text.specs.Readers.{HasReadHeader}
use Rattle.command_runs.proofs.Refusing.{told_after, unanswered_offer, unanswered_run}
use Rattle.command_runs.proofs.Serving.{answers_run, ok_then, program_of}
use Rattle.command_runs.proofs.Telling.{held_back, opened_is}
use Rattle.command_runs.proofs.asking.Run.answer.Goals as goal
use Rattle.command_runs.specs.Refused.{IsNotOffered}
use Rattle.command_runs.specs.Stages.{listed_by}

pub returns-in-Ok-clause-answer : goal.returns-in-Ok-clause-answer
returns-in-Ok-clause-answer g c =
    let run = c.args.self.now in
    let files = g.D.Desk.files c.args.desk.now in
    let o = c.in_ok-schedule.schedule in
    let begun = subst (λ file. IfSome file (λ held. HasReadHeader held o.setup o.plan o.reader))
    (c.open.ensures.files run.schedule.now) c.in_ok-schedule.ensures.opened in
    let is = program_of run.source files c.in_ok-opened.opened o.setup.nodes o.setup.faults
    c.in-Ok.program c.in_ok-opened.ensures.opened c.in-Ok.ensures.program in
    ok_then c.answer_by.result _ _
    (λ plan a h. answers_run run.source files c.in-Ok.program o.setup o.plan o.reader
    c.args.question (files run.schedule.now) a is begun plan h) c.answer_by.ensures.plan
    c.answer_by.ensures.answered

pub returns-in-Ok-clause-refused : goal.returns-in-Ok-clause-refused
returns-in-Ok-clause-refused g c =
    let run = c.args.self.now in
    let files = g.D.Desk.files c.args.desk.now in
    let o = c.in_ok-schedule.schedule in
    let begun = subst (λ file. IfSome file (λ held. HasReadHeader held o.setup o.plan o.reader))
    (c.open.ensures.files run.schedule.now) c.in_ok-schedule.ensures.opened in
    let is = program_of run.source files c.in_ok-opened.opened o.setup.nodes o.setup.faults
    c.in-Ok.program c.in_ok-opened.ensures.opened c.in-Ok.ensures.program in
    let opened = opened_is run.source files c.in_ok-opened.opened c.in_ok-opened.ensures.opened in
    IfErr-weaker c.answer_by.result _ _
    (λ x h. unanswered_run run.source files c.in-Ok.program o.setup o.plan o.reader
    (listed_by c.args.question) x (files run.schedule.now) opened is begun h)
    c.answer_by.ensures.refused

pub returns-in-Err-clause-refused : goal.returns-in-Err-clause-refused
returns-in-Err-clause-refused g c =
    let run = c.args.self.now in
    let files = g.D.Desk.files c.args.desk.now in
    let o = c.in_ok-schedule.schedule in
    let n = o.setup.nodes in
    let t = o.setup.faults in
    let begun = subst (λ file. IfSome file (λ held. HasReadHeader held o.setup o.plan o.reader))
    (c.open.ensures.files run.schedule.now) c.in_ok-schedule.ensures.opened in
    let opened = opened_is run.source files c.in_ok-opened.opened c.in_ok-opened.ensures.opened in
    let held = held_back run.source files c.in_ok-opened.opened n t c.in-Err.refusal
    c.in_ok-opened.ensures.opened c.in-Err.ensures.refused in
    unanswered_offer run.source files o.setup o.plan o.reader (listed_by c.args.question)
    c.refusal_after.result (files run.schedule.now) opened begun
    (told_after (λ events x. IsNotOffered run.source n t x) o.setup o.reader c.in-Err.refusal
    c.refusal_after.result (λ events. held) c.refusal_after.ensures)
