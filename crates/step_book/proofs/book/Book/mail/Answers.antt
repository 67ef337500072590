use Rattle.std.proofs.Common.{◌≡◌, List, ◌∙◌, arith, subst, sym}
use Rattle.run_events.specs.declared.name.Name.{Name}
use Rattle.step_book.specs.Agreement.{IsBuffer}
use Rattle.step_book.specs.Log.{history, waiting_in, world_of}
use Rattle.step_book.proofs.Reading.{of_view, buffer_once, handed_len, handed_read, lists_len}
use Rattle.step_book.proofs.Reading.{lists_read, waiting_len, waiting_read, waits_len, waits_read}
use Rattle.step_book.proofs.book.Book.mail.Goals as goal

pub index-requires : goal.index-requires
index-requires g c =
    let n = handed_len (of_view g.P.Plan.start g.P.Plan.nodes c.self.view_is c.self.invariant) in
    let m = lists_len c.self.inside.mails.items in
    omega (arith, c.requires)

pub returns-clause-handed : goal.returns-clause-handed
returns-clause-handed g c =
    let n = handed_len (of_view g.P.Plan.start g.P.Plan.nodes c.self.view_is c.self.invariant) in
    let m = lists_len c.self.inside.mails.items in
    sym (lists_read c.self.inside.mails.items c.args.node c.index.result.now
    (omega (arith, c.requires)) c.index.ensures)
    ∙ handed_read (of_view g.P.Plan.start g.P.Plan.nodes c.self.view_is c.self.invariant)
    c.args.node c.requires

pub returns-clause-waiting : goal.returns-clause-waiting
returns-clause-waiting g c =
    let n = waiting_len (of_view g.P.Plan.start g.P.Plan.nodes c.self.view_is c.self.invariant) in
    let m = waits_len c.self.inside.mails.items in
    sym (waits_read c.self.inside.mails.items c.args.node c.index.result.now
    (omega (arith, c.requires)) c.index.ensures)
    ∙ waiting_read (of_view g.P.Plan.start g.P.Plan.nodes c.self.view_is c.self.invariant)
    c.args.node c.requires

pub returns-clause-once : goal.returns-clause-once
returns-clause-once g c =
    let v = c.args.self.now in
    let h = of_view g.P.Plan.start g.P.Plan.nodes c.self.view_is c.self.invariant in
    let n = waiting_len h in
    let m = waits_len c.self.inside.mails.items in
    let names : c.index.result.now.waiting ≡ waiting_in (g.P.Plan.start v.plan) v.log c.args.node =
    sym (waits_read c.self.inside.mails.items c.args.node c.index.result.now
    (omega (arith, c.requires)) c.index.ensures) ∙ waiting_read h c.args.node c.requires in
    subst (λ (x : List Name). IsBuffer (world_of (g.P.Plan.start v.plan) v.log)
    (history v.log) c.args.node x) (sym names) (buffer_once h c.args.node)
