use Rattle.std.proofs.Common.{subst}
use Rattle.step_book.specs.Log.{IsFaithful, Recorded}
use Rattle.adversary.proofs.Settled.{closed_are_due}
use Rattle.adversary.proofs.driver.Driver.into_journal.Goals as goal

pub returns-clause-closed : goal.returns-clause-closed
returns-clause-closed g c =
    let j = c.self.inside.journal in
    let faithful = subst (λ (b : Recorded _). IsFaithful (g.P.Plan.start b.plan) b.log)
    c.book.ensures c.agrees.ensures.faithful in
    closed_are_due (g.P.Plan.start j.plan) (g.P.Plan.receives j.plan) (g.P.Plan.nodes j.plan)
    (g.met.P.Plan.laws j.plan) j.log faithful c.self.invariant.settled
