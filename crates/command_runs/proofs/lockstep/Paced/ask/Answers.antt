use Rattle.std.proofs.Common.{◌≡◌, ◌∙◌, inl, inr, subst, sym}
use Rattle.std.specs.Prelude.{IfSome}
use Rattle.command_runs.specs.Refused.{IsUnasked}
use Rattle.command_runs.specs.Served.{IsHeader}
use Rattle.command_runs.proofs.Refusing.{err_then}
use Rattle.command_runs.proofs.Serving.{program_of}
use Rattle.command_runs.proofs.Telling.{opened_is}
use Rattle.command_runs.proofs.Unmade.{no_lines_as, says_as}
use Rattle.command_runs.proofs.lockstep.Paced.ask.Goals as goal

pub returns-clause-asked : goal.returns-clause-asked
returns-clause-asked g c =
    let asking = c.args.self.now in
    let files = g.D.Desk.files c.args.desk.now in
    let s = c.in_ok-setup.setup in
    let k = c.in_ok-setup.plan in
    let ls = c.in_ok-omissions.omissions in
    let p = c.in_ok-program.program in
    record {
      header = subst (λ file. IfSome file (λ text. IsHeader text s k))
          (c.open.ensures.files asking.header.now) c.in_ok-setup.ensures.header;
      omissions = says_as files _ asking.omissions ls
          (λ name. c.header_in.ensures.files name ∙ c.open.ensures.files name)
          c.in_ok-omissions.ensures.said;
      program = program_of asking.source files c.in_ok-opened.opened s.nodes s.faults p
          c.in_ok-opened.ensures.opened c.in_ok-program.ensures.program;
    }

pub returns-in_err-omissions-clause-refused : goal.returns-in_err-omissions-clause-refused
returns-in_err-omissions-clause-refused g c =
    let asking = c.args.self.now in
    let files = g.D.Desk.files c.args.desk.now in
    let s = c.in_ok-setup.setup in
    let k = c.in_ok-setup.plan in
    let f = c.in_err-omissions.field-0.0 in
    let read = subst (λ file. IfSome file (λ text. IsHeader text s k))
    (c.open.ensures.files asking.header.now) c.in_ok-setup.ensures.header in
    let opened =
    opened_is asking.source files c.in_ok-opened.opened c.in_ok-opened.ensures.opened in
    let none = no_lines_as files _ asking.omissions f
    (λ name. c.header_in.ensures.files name ∙ c.open.ensures.files name)
    c.in_err-omissions.ensures.refused in
    let cause = IsUnasked asking.source files (files asking.header.now) asking.omissions in
    err_then c.from_residual-in_err-omissions.result (λ r. r ≡ f) cause
    c.from_residual-in_err-omissions.ensures.1
    (λ r is. subst cause (sym is) (inr (inr (inl (opened, (s, k, read), none)))))
