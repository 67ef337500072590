use Rattle.std.proofs.Common.{◌≡◌, inr, sym, subst}
use Rattle.std.specs.Prelude.{IfSome}
use Rattle.command_runs.specs.Refused.{IsUnexplored}
use Rattle.command_runs.specs.Served.{IsHeader}
use Rattle.command_runs.proofs.Heads.{head_refused, headed}
use Rattle.command_runs.proofs.Refusing.{err_then}
use Rattle.command_runs.proofs.Serving.{program_of}
use Rattle.command_runs.proofs.Telling.{opened_is}
use Rattle.command_runs.proofs.exploring.Exploration.read.Goals as goal

pub returns-clause-searchable : goal.returns-clause-searchable
returns-clause-searchable g c =
    let asked = c.args.self.now in
    let files = g.D.Desk.files c.args.desk.now in
    let s = c.in_ok-setup.setup in
    let k = c.in_ok-setup.plan in
    let p = c.in_ok-program.program in record {
      opened = opened_is asked.source files c.in_ok-opened.opened c.in_ok-opened.ensures.opened;
      read = subst (λ file. IfSome file (λ text. IsHeader text s k))
          (c.open.ensures.files asked.header.now) c.in_ok-setup.ensures.header;
      program = program_of asked.source files c.in_ok-opened.opened s.nodes s.faults p
          c.in_ok-opened.ensures.opened c.in_ok-program.ensures.program;
      explored = c.in_ok-check_asked.ensures.explored;
    }

pub returns-in_err-check_asked-clause-refused : goal.returns-in_err-check_asked-clause-refused
returns-in_err-check_asked-clause-refused g c =
    let asked = c.args.self.now in
    let files = g.D.Desk.files c.args.desk.now in
    let s = c.in_ok-setup.setup in
    let k = c.in_ok-setup.plan in
    let p = c.in_ok-program.program in
    let read = subst (λ file. IfSome file (λ text. IsHeader text s k))
    (c.open.ensures.files asked.header.now) c.in_ok-setup.ensures.header in
    let is = program_of asked.source files c.in_ok-opened.opened s.nodes s.faults p
    c.in_ok-opened.ensures.opened c.in_ok-program.ensures.program in
    let opened = opened_is asked.source files c.in_ok-opened.opened
    c.in_ok-opened.ensures.opened in
    let fault = c.in_err-check_asked.field-0.0 in
    let cause = IsUnexplored asked.source files (files asked.header.now) asked.exploring in
    err_then c.from_residual-in_err-check_asked.result (λ r. r ≡ fault) cause
    c.from_residual-in_err-check_asked.ensures.1 (λ r same. subst cause (sym same)
    (inr (inr (opened, (s, k, tt, read, inr (p, is, c.in_err-check_asked.ensures.refused))))))

pub returns-in_err-head-clause-refused : goal.returns-in_err-head-clause-refused
returns-in_err-head-clause-refused g c =
    let asked = c.args.self.now in
    let files = g.D.Desk.files c.args.desk.now in
    let s = c.in_ok-setup.setup in
    let k = c.in_ok-setup.plan in
    let read = subst (λ file. IfSome file (λ text. IsHeader text s k))
    (c.open.ensures.files asked.header.now) c.in_ok-setup.ensures.header in
    let opens = c.in_ok-opened.ensures.opened in
    let opened = opened_is asked.source files c.in_ok-opened.opened opens in
    let fault = c.in_err-head.field-0.0 in
    let cause = IsUnexplored asked.source files (files asked.header.now) asked.exploring in
    err_then c.from_residual-in_err-head.result (λ r. r ≡ fault) cause
    c.from_residual-in_err-head.ensures.1 (λ r same. subst cause (sym same)
    (head_refused asked.source files (files asked.header.now) asked.exploring s k
    c.in_ok-opened.opened c.in_ok-program.text opened read opens c.in_ok-program.ensures.text fault
    c.in_err-head.ensures.refused))

pub returns-clause-headed : goal.returns-clause-headed
returns-clause-headed g c =
    let asked = c.args.self.now in
    let files = g.D.Desk.files c.args.desk.now in
    let s = c.in_ok-setup.setup in
    headed asked.source files c.in_ok-opened.opened c.in_ok-program.text s.nodes s.faults
    c.in_ok-program.program c.in_ok-opened.ensures.opened c.in_ok-program.ensures.program
    c.in_ok-program.ensures.text s asked.exploring c.in_ok-head.head c.in_ok-head.ensures.headed
