use Rattle.std.proofs.Common.{subst}
use Rattle.step_book.specs.Log.{HasNoCopy}
use Rattle.adversary.proofs.Asked.{at_same}
use Rattle.adversary.proofs.asking.copy_at.Goals as goal

pub returns-in-None-next_copy-clause-comes : goal.returns-in-None-next_copy-clause-comes
returns-in-None-next_copy-clause-comes g c = λ n at.
    subst (HasNoCopy (g.P.Plan.start c.args.book.now.plan) c.args.book.now.log)
    (at_same c.args.flight.now c.args.place c.in-Some.name n c.in-Some.ensures.some at)
    (c.next_copy.ensures.none c.in-None-next_copy.is)
