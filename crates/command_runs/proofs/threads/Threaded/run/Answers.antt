use Rattle.std.proofs.Common.{◌≡◌, ◌≢◌, sym, subst}
use Rattle.std.proofs.lemmas.Result.{IfErr-weaker, IfOk-weaker}
use Rattle.command_runs.specs.Refused.{IsNotThreaded}
use Rattle.command_runs.specs.Stages.{IsAfterStart, IsRefusedThreads}
use Rattle.command_runs.specs.declared.refusal.Refusal.TheVariants.{NodeNoMemory}
use Rattle.command_runs.proofs.Refusing.{err_then}
use Rattle.command_runs.proofs.Threaded.{reports_threads}
use Rattle.command_runs.proofs.Tried.{if_err_always, on_ok_always, ready_starts, threads_refused}
use Rattle.command_runs.proofs.Tried.{unfit_first, unfit_other}
use Rattle.command_runs.proofs.Tried.{unfit_unthreaded, unthreaded, untried_first, untried_threads}
use Rattle.command_runs.proofs.threads.Threaded.run.Goals as goal

pub returns-clause-told : goal.returns-clause-told
returns-clause-told g c =
    let threaded = c.args.self.now in
    let files = g.D.Desk.files c.args.desk.now in
    let t = c.in_ok-program.setup in
    let p = c.in_ok-program.program in
    let ready = c.in_ok-program.ensures.ready in
    IfOk-weaker c.run_by.result _ _ (λ run h. reports_threads threaded.source files p t run
    (files threaded.setup.now) ready.program ready.read ready.plan ready.fit h)
    c.run_by.ensures.told

pub returns-clause-starts : goal.returns-clause-starts
returns-clause-starts g c =
    let threaded = c.args.self.now in
    let files = g.D.Desk.files c.args.desk.now in
    IfOk-weaker c.run_by.result _ _ (λ run fit. ready_starts threaded.source files
    (files threaded.setup.now) c.in_ok-program.program c.in_ok-program.setup
    c.in_ok-program.ensures.ready) c.run_by.ensures.fit

pub returns-clause-tried : goal.returns-clause-tried
returns-clause-tried g c = on_ok_always c.run_by.result c.in_ok-try_trace.ensures.tried

pub returns-clause-apart : goal.returns-clause-apart
returns-clause-apart g c = on_ok_always c.run_by.result c.in_ok-try_trace.ensures.apart

pub returns-clause-refused : goal.returns-clause-refused
returns-clause-refused g c =
    let threaded = c.args.self.now in
    let files = g.D.Desk.files c.args.desk.now in
    IfErr-weaker c.run_by.result _ _ (λ r none. unthreaded threaded.source files
    (files threaded.setup.now) c.in_ok-program.program c.in_ok-program.setup
    c.in_ok-program.ensures.ready r none) c.run_by.ensures.refused

pub returns-clause-first_tried : goal.returns-clause-first_tried
returns-clause-first_tried g c =
    if_err_always c.run_by.result (λ r. IsAfterStart r → g.D.Desk.can_write
    c.try_trace.new.desk c.args.self.now.trace.now) (λ r of. c.in_ok-try_trace.ensures.tried)

pub returns-in_err-program-clause-refused : goal.returns-in_err-program-clause-refused
returns-in_err-program-clause-refused g c =
    let threaded = c.args.self.now in
    let files = g.D.Desk.files c.args.desk.now in
    let file = files threaded.setup.now in
    let fault = c.in_err-program.field-0.0 in
    let cause = IsRefusedThreads threaded.source files file in
    err_then c.from_residual.result (λ r. r ≡ fault) cause c.from_residual.ensures.1
    (λ r is. subst cause (sym is) (threads_refused threaded.source files file fault
    (unfit_unthreaded threaded.source files file fault c.in_err-program.ensures.refused)))

pub returns-in_err-program-clause-first_tried : goal.returns-in_err-program-clause-first_tried
returns-in_err-program-clause-first_tried g c =
    let threaded = c.args.self.now in
    let files = g.D.Desk.files c.args.desk.now in
    let fault = c.in_err-program.field-0.0 in
    err_then c.from_residual.result (λ r. r ≡ fault)
    (λ r. IsAfterStart r → g.D.Desk.can_write c.read.new.desk threaded.trace.now)
    c.from_residual.ensures.1 (λ r is of. absurd (unfit_first threaded.source files
    (files threaded.setup.now) fault c.in_err-program.ensures.refused (subst IsAfterStart is of)))

pub returns-in_err-try_trace-clause-refused : goal.returns-in_err-try_trace-clause-refused
returns-in_err-try_trace-clause-refused g c =
    let threaded = c.args.self.now in
    let files = g.D.Desk.files c.args.desk.now in
    let file = files threaded.setup.now in
    let fault = c.in_err-try_trace.field-0.0 in
    let cause = IsRefusedThreads threaded.source files file in
    err_then c.from_residual-in_err-try_trace.result (λ r. r ≡ fault) cause
    c.from_residual-in_err-try_trace.ensures.1 (λ r is. subst cause (sym is)
    (untried_threads threaded.source files file c.in_ok-program.program c.in_ok-program.setup
    c.in_ok-program.ensures.ready fault c.in_err-try_trace.ensures.refused))

pub returns-in_err-try_trace-clause-first_tried : goal.returns-in_err-try_trace-clause-first_tried
returns-in_err-try_trace-clause-first_tried g c =
    let fault = c.in_err-try_trace.field-0.0 in
    err_then c.from_residual-in_err-try_trace.result (λ r. r ≡ fault)
    (λ r. IsAfterStart r → g.D.Desk.can_write c.try_trace.new.desk c.args.self.now.trace.now)
    c.from_residual-in_err-try_trace.ensures.1 (λ r is of. absurd (untried_first fault
    c.in_err-try_trace.ensures.refused (subst IsAfterStart is of)))

pub returns-clause-other : goal.returns-clause-other
returns-clause-other g c =
    let t = c.in_ok-program.setup in
    IfErr-weaker c.run_by.result _ _ (λ r none is. subst (IsNotThreaded
    c.in_ok-program.program t.setup t.plan t.stops.items) is none) c.run_by.ensures.refused

pub returns-in_err-program-clause-other : goal.returns-in_err-program-clause-other
returns-in_err-program-clause-other g c =
    let threaded = c.args.self.now in
    let files = g.D.Desk.files c.args.desk.now in
    let fault = c.in_err-program.field-0.0 in
    err_then c.from_residual.result (λ r. r ≡ fault) (λ r. r ≢ NodeNoMemory)
    c.from_residual.ensures.1 (λ r is. subst (λ r. r ≢ NodeNoMemory) (sym is)
    (unfit_other threaded.source files (files threaded.setup.now) fault
    c.in_err-program.ensures.refused))
