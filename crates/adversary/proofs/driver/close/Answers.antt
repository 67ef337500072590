use Rattle.std.proofs.Common.{subst, sym}
use Rattle.step_book.specs.Log.{Recorded}
use Rattle.adversary.specs.Driving.{IsNodeOf}
use Rattle.adversary.proofs.Closed.{close_due, close_ended, node_closed}
use Rattle.adversary.proofs.driver.close.Goals as goal

pub returns-clause-node : goal.returns-clause-node
returns-clause-node g c =
    let j = c.args.journal.now in
    let start = g.P.Plan.start j.plan in
    let e = c.settle.ensures in
    let kept = c.finish.follows.holds-at-none in
    subst (λ (z : Recorded _). IsNodeOf (g.P.Plan.start z.plan) z.log c.args.node.now.me
    c.settle.new.self) (sym c.in_ok-record_close.ensures.ok.recorded)
    (node_closed start j.log c.args.node.now c.finish.result.node.now c.finish.ensures.ended
    c.requires.node c.requires.first c.requires.due
    c.finish.follows.lender-at-none c.settle.new.self kept.0 kept.1 e)

pub record_close-requires-clause-due : goal.record_close-requires-clause-due
record_close-requires-clause-due g c =
    let j = c.args.journal.now in
    close_due (g.P.Plan.start j.plan) j.log c.args.node.now c.finish.result.node.now
    c.finish.ensures.ended c.requires.node c.requires.first c.requires.due (c.requires.last)

pub record_close-requires-clause-ended : goal.record_close-requires-clause-ended
record_close-requires-clause-ended g c =
    let j = c.args.journal.now in
    close_ended (g.P.Plan.start j.plan) j.log c.args.node.now c.finish.result.node.now
    c.finish.ensures.ended c.requires.node c.requires.first c.requires.due (c.requires.last)
