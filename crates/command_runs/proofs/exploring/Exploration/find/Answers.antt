use Rattle.std.proofs.Common.{◌≡◌, sym, subst}
use Rattle.command_runs.specs.Stages.{IsRefusedSearch}
use Rattle.command_runs.proofs.Explored.{finds_in}
use Rattle.command_runs.proofs.Refusing.{err_then}
use Rattle.command_runs.proofs.Tried.{search_refused, unsearched, untried_search}
use Rattle.command_runs.proofs.exploring.Exploration.find.Goals as goal

pub returns-clause-found : goal.returns-clause-found
returns-clause-found g c =
    let asked = c.args.self.now in
    let files = g.D.Desk.files c.args.desk.now in
    let s = c.in_ok-program.setup in
    let k = c.in_ok-program.plan in
    let p = c.in_ok-program.program in
    let ready = c.in_ok-program.ensures.searchable in
    finds_in asked.source files p s k asked.exploring
    (record { head = c.in_ok-program.head; found = c.in_ok-found.found })
    (files asked.header.now) ready.program ready.read ready.explored
    c.in_ok-found.ensures.found
    c.in_ok-program.ensures.headed

pub returns-clause-apart : goal.returns-clause-apart
returns-clause-apart g c = c.in_ok-try_trace_if_named.ensures.apart

pub returns-in_err-found-clause-refused : goal.returns-in_err-found-clause-refused
returns-in_err-found-clause-refused g c =
    let asked = c.args.self.now in
    let files = g.D.Desk.files c.args.desk.now in
    let file = files asked.header.now in
    let fault = c.in_err-found.field-0.0 in
    let cause = IsRefusedSearch asked.source files file asked.exploring in
    err_then c.from_residual-in_err-found.result (λ r. r ≡ fault) cause
    c.from_residual-in_err-found.ensures.1 (λ r is. subst cause (sym is)
    (unsearched asked.source files file asked.exploring c.in_ok-program.program
    c.in_ok-program.setup c.in_ok-program.plan c.in_ok-program.ensures.searchable fault
    c.in_err-found.ensures.refused))

pub returns-in_err-program-clause-refused : goal.returns-in_err-program-clause-refused
returns-in_err-program-clause-refused g c =
    let asked = c.args.self.now in
    let files = g.D.Desk.files c.args.desk.now in
    let file = files asked.header.now in
    let fault = c.in_err-program.field-0.0 in
    let cause = IsRefusedSearch asked.source files file asked.exploring in
    err_then c.from_residual.result (λ r. r ≡ fault) cause c.from_residual.ensures.1
    (λ r is. subst cause (sym is) (search_refused asked.source files file asked.exploring fault
    c.in_err-program.ensures.refused))

pub returns-in_err-try_trace_if_named-clause-refused :
    goal.returns-in_err-try_trace_if_named-clause-refused
returns-in_err-try_trace_if_named-clause-refused g c =
    let asked = c.args.self.now in
    let files = g.D.Desk.files c.args.desk.now in
    let file = files asked.header.now in
    let fault = c.in_err-try_trace_if_named.field-0.0 in
    let cause = IsRefusedSearch asked.source files file asked.exploring in
    err_then c.from_residual-in_err-try_trace_if_named.result (λ r. r ≡ fault) cause
    c.from_residual-in_err-try_trace_if_named.ensures.1 (λ r is. subst cause (sym is)
    (untried_search asked.source files file asked.exploring c.in_ok-program.program
    c.in_ok-program.setup c.in_ok-program.plan c.in_ok-program.ensures.searchable fault
    c.in_err-try_trace_if_named.ensures.named c.in_err-try_trace_if_named.ensures.refused))
