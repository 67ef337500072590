use Rattle.std.proofs.Common.{◌≡◌, ◌∙◌, ap, subst, sym}
use Rattle.std.specs.Io.KnownBytes.{Appends}
use Rattle.command_words.specs.declared.words.Words.TheVariants.{Explore}
use Rattle.command_runs.specs.InParts.{explored_with}
use Rattle.command_runs.specs.InRounds.{outcome_of}
use Rattle.command_runs.specs.Refused.{IsRefusedCommand}
use Rattle.command_runs.proofs.Explored.{explore_unwritten, tells_of_all}
use Rattle.command_runs.proofs.Refusing.{err_then}
use Rattle.command_runs.proofs.Serving.{written_whole}
use Rattle.command_runs.proofs.Tried.{explore_refused}
use Rattle.command_runs.proofs.run.explore.Goals as goal

pub returns-in_err-head-clause-refused : goal.returns-in_err-head-clause-refused
returns-in_err-head-clause-refused g c =
    let x = c.args.exploration in
    let files = g.D.Desk.files c.args.desk.now in
    let cause = IsRefusedCommand (Explore x.source x.header x.exploring c.args.exploration.format) files in
    let fault = c.in_err-head.field-0.0 in
    err_then c.from_residual.result (λ r. r ≡ fault) cause c.from_residual.ensures.1
    (λ r is. subst cause (sym is)
    (explore_refused x.source files x.header x.exploring c.args.exploration.format fault
    c.in_err-head.ensures.refused))

pub returns-in_err-printed-clause-refused : goal.returns-in_err-printed-clause-refused
returns-in_err-printed-clause-refused g c =
    let x = c.args.exploration in
    let files = g.D.Desk.files c.args.desk.now in
    let cause = IsRefusedCommand (Explore x.source x.header x.exploring c.args.exploration.format) files in
    let fault = c.in_err-printed.field-0.0 in
    err_then c.from_residual-in_err-printed.result (λ r. r ≡ fault) cause
    c.from_residual-in_err-printed.ensures.1 (λ r is. subst cause (sym is)
    (explore_unwritten x.source files x.header x.exploring c.args.exploration.format c.in_ok-head.field-0 fault
    c.in_ok-head.ensures.found c.in_ok-head.ensures.detailed c.in_err-printed.ensures.refused))

pub returns-in-Ok-clause-served : goal.returns-in-Ok-clause-served
returns-in-Ok-clause-served g c =
    let x = c.args.exploration in
    let files = g.D.Desk.files c.args.desk.now in
    let after = g.D.Desk.files c.write_shown-traced.new.desk in
    let out = g.O.Write.contents in
    let explored = c.in_ok-head.field-0 in
    let told = explored.found.told.items in (
      explored.head,
      told,
      explored.found.details,
      tells_of_all x.source files x.exploring explored (files x.header.now) after
          c.in-Ok.ensures.held c.in_ok-head.ensures.found,
      c.in_ok-head.ensures.detailed,
      c.of.ensures ∙ ap outcome_of c.deref-in-Ok.ensures.value,
      subst (λ ts. Appends (out c.args.out.now) (out c.written-printed.new.out)
          (explored_with c.args.exploration.format explored.head ts explored.found.details))
          c.deref.ensures.value
          (written_whole c.write_explored.result (out c.args.out.now)
          (out c.write_explored.new.out) (out c.written-printed.new.out)
          (explored_with c.args.exploration.format explored.head c.deref.result.now explored.found.details)
          c.in_ok-printed.ensures.done c.write_explored.ensures c.in_ok-printed.ensures.kept),
    )

pub returns-clause-left : goal.returns-clause-left
returns-clause-left g c =
    let out = g.O.Write.contents in
    let explored = c.in_ok-head.field-0 in (
      explored,
      c.in_ok-head.ensures.found,
      c.in_ok-head.ensures.detailed,
      subst (λ ts. Appends (out c.args.out.now) (out c.written-printed.new.out)
          (explored_with c.args.exploration.format explored.head ts explored.found.details))
          c.deref.ensures.value
          (written_whole c.write_explored.result (out c.args.out.now)
          (out c.write_explored.new.out) (out c.written-printed.new.out)
          (explored_with c.args.exploration.format explored.head c.deref.result.now explored.found.details)
          c.in_ok-printed.ensures.done c.write_explored.ensures c.in_ok-printed.ensures.kept),
    )
