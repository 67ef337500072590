use Rattle.std.proofs.Common.{◌≡◌, [], ap, subst}
use Rattle.step_book.specs.Log.{IsFaithful, Recorded}
use Rattle.adversary.proofs.Runs.{driven_first}
use Rattle.adversary.proofs.Settled.{settled_first}
use Rattle.adversary.proofs.driver.Driver.open.Goals as goal

pub invariant_of-result : goal.invariant_of-result
invariant_of-result g c =
    let j = c.in_ok-journal.journal in
    let faithful = subst (λ (b : Recorded _). IsFaithful (g.P.Plan.start b.plan) b.log)
    c.book.ensures c.agrees.ensures.faithful in
    let none : j.log.trace ≡ [] = ap (λ (b : Recorded _). b.log.trace) c.in_ok-journal.ensures in
    driven_first g.P.Plan.start c.args.program.now c.args.setup.now c.args.plan j
    c.in_ok-nodes.nodes.items c.in_ok-journal.ensures
    (c.in_ok-nodes.ensures (g.P.Plan.start j.plan))
    (settled_first (g.P.Plan.start j.plan) (g.P.Plan.receives j.plan) (g.P.Plan.nodes j.plan)
    (g.met.P.Plan.laws j.plan) j.log none faithful)
