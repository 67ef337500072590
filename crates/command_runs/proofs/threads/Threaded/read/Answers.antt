use Rattle.std.proofs.Common.{◌≡◌, inl, inr, sym, subst}
use Rattle.std.specs.Prelude.{IfSome}
use Rattle.command_runs.specs.Refused.{IsUnfit}
use Rattle.command_runs.specs.Served.{IsThreadSetup}
use Rattle.command_runs.proofs.Refusing.{err_then}
use Rattle.command_runs.proofs.Serving.{program_of}
use Rattle.command_runs.proofs.Telling.{held_back, opened_is}
use Rattle.command_runs.proofs.threads.Threaded.read.Goals as goal

pub returns-clause-ready : goal.returns-clause-ready
returns-clause-ready g c =
    let threaded = c.args.self.now in
    let files = g.D.Desk.files c.args.desk.now in
    let t = c.in_ok-setup.setup in
    let p = c.in_ok-program.program in record {
      opened = opened_is threaded.source files c.in_ok-opened.opened
          c.in_ok-opened.ensures.opened;
      read = subst (λ file. IfSome file
          (λ text. IsThreadSetup text t.setup t.plan t.pace t.stops.items))
          (c.open.ensures.files threaded.setup.now) c.in_ok-setup.ensures.setup;
      program = program_of threaded.source files c.in_ok-opened.opened t.setup.nodes
          t.setup.faults p c.in_ok-opened.ensures.opened c.in_ok-program.ensures.program;
      fit = c.in_ok-check_fit.ensures.fit.0;
      plan = c.in_ok-check_fit.ensures.fit.1;
    }

pub returns-in_err-program-clause-refused : goal.returns-in_err-program-clause-refused
returns-in_err-program-clause-refused g c =
    let threaded = c.args.self.now in
    let files = g.D.Desk.files c.args.desk.now in
    let t = c.in_ok-setup.setup in
    let fault = c.in_err-program.field-0.0 in
    let read = subst (λ file. IfSome file
    (λ text. IsThreadSetup text t.setup t.plan t.pace t.stops.items))
    (c.open.ensures.files threaded.setup.now) c.in_ok-setup.ensures.setup in
    let opened = opened_is threaded.source files c.in_ok-opened.opened
    c.in_ok-opened.ensures.opened in
    let held = held_back threaded.source files c.in_ok-opened.opened t.setup.nodes t.setup.faults
    fault c.in_ok-opened.ensures.opened c.in_err-program.ensures.refused in
    let cause = IsUnfit threaded.source files (files threaded.setup.now) in
    err_then c.from_residual-in_err-program.result (λ r. r ≡ fault) cause
    c.from_residual-in_err-program.ensures.1 (λ r is. subst cause (sym is)
    (inr (inr (opened, (t.setup, t.plan, (t.pace, t.stops.items), read, inl held)))))

pub returns-in_err-check_fit-clause-refused : goal.returns-in_err-check_fit-clause-refused
returns-in_err-check_fit-clause-refused g c =
    let threaded = c.args.self.now in
    let files = g.D.Desk.files c.args.desk.now in
    let t = c.in_ok-setup.setup in
    let p = c.in_ok-program.program in
    let fault = c.in_err-check_fit.field-0.0 in
    let read = subst (λ file. IfSome file
    (λ text. IsThreadSetup text t.setup t.plan t.pace t.stops.items))
    (c.open.ensures.files threaded.setup.now) c.in_ok-setup.ensures.setup in
    let opened = opened_is threaded.source files c.in_ok-opened.opened
    c.in_ok-opened.ensures.opened in
    let is = program_of threaded.source files c.in_ok-opened.opened t.setup.nodes t.setup.faults p
    c.in_ok-opened.ensures.opened c.in_ok-program.ensures.program in
    let cause = IsUnfit threaded.source files (files threaded.setup.now) in
    err_then c.from_residual-in_err-check_fit.result (λ r. r ≡ fault) cause
    c.from_residual-in_err-check_fit.ensures.1 (λ r is_so. subst cause (sym is_so)
    (inr (inr (
      opened,
      (
        t.setup,
        t.plan,
        (t.pace, t.stops.items),
        read,
        inr (p, is, c.in_err-check_fit.ensures.refused),
      ),
    ))))
