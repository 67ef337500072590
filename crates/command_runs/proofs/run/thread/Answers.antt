use Rattle.std.proofs.Common.{List, ℕ, ◌≡◌, subst, sym}
use Rattle.std.specs.Prelude.{IfSome, string_bytes}
use Rattle.command_runs.specs.Refused.{LeftByThreads}
use Rattle.command_runs.specs.Served.{ReportsThreads, told_text}
use Rattle.command_runs.proofs.Refusing.{err_then}
use Rattle.command_runs.proofs.Serving.{written_whole}
use Rattle.command_runs.proofs.Telling.{left_same}
use Rattle.command_runs.proofs.Threaded.{reports_traced}
use Rattle.command_runs.proofs.run.thread.Goals as goal

pub returns-then-whole-clause-served : goal.returns-then-whole-clause-served
returns-then-whole-clause-served g c =
    let threaded = c.args.threaded in
    let files = g.D.Desk.files c.args.desk.now in
    let file = files threaded.setup.now in
    let after = g.D.Desk.files c.write_trace.new.desk threaded.trace.now in
    let run = c.in_ok-report.field-0 in
    let made = string_bytes run.trace in
    let held = subst (λ (text : List ℕ). IfSome after (λ held. held ≡ text)) c.as_str.ensures.value
    c.in_ok-write_trace.ensures.held in
    let said = written_whole c.write_told.result _ _ _ (told_text run.report c.args.decided)
    c.in_ok-written.ensures.done c.write_told.ensures c.in_ok-written.ensures.kept in (
      run.report,
      subst (λ b. ReportsThreads threaded.source files file after b run.report) c.if-whole.true
          (reports_traced threaded.source files file after made run.whole run.report
          c.in_ok-report.ensures.told held),
      said,
    )

pub returns-clause-left : goal.returns-clause-left
returns-clause-left g c =
    let threaded = c.args.threaded in
    let files = g.D.Desk.files c.args.desk.now in
    let file = files threaded.setup.now in
    let after = g.D.Desk.files c.write_trace.new.desk threaded.trace.now in
    let run = c.in_ok-report.field-0 in
    let made = string_bytes run.trace in
    let held = subst (λ (text : List ℕ). IfSome after (λ held. held ≡ text)) c.as_str.ensures.value
    c.in_ok-write_trace.ensures.held in
    let said = written_whole c.write_told.result _ _ _ (told_text run.report c.args.decided)
    c.in_ok-written.ensures.done c.write_told.ensures c.in_ok-written.ensures.kept in (
      run.report,
      subst (λ b. ReportsThreads threaded.source files file after b run.report) c.if-whole.false
          (reports_traced threaded.source files file after made run.whole run.report
          c.in_ok-report.ensures.told held),
      said,
    )

pub returns-in_err-report-clause-left : goal.returns-in_err-report-clause-left
returns-in_err-report-clause-left g c =
    let threaded = c.args.threaded in
    let files = g.D.Desk.files c.args.desk.now in
    let after = g.D.Desk.files c.run.new.desk threaded.trace.now in
    let out = g.O.Write.contents c.args.out.now in
    let fault = c.in_err-report.field-0.0 in
    let left = LeftByThreads threaded.source files (files threaded.setup.now) after c.args.decided
    out out in
    err_then c.from_residual.result (λ r. r ≡ fault) left c.from_residual.ensures.1
    (λ r is. subst left (sym is) (left_same threaded.source files (files threaded.setup.now) after
    c.args.decided out fault c.in_err-report.ensures.other))
