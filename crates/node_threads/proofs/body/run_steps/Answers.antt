use Rattle.std.proofs.Common.{Option, subst, sym}
use Rattle.std.specs.Option.{ForSome}
use Rattle.node_threads.specs.Bodies.{IsEnded}
use Rattle.node_threads.specs.declared.ended.Ended.{Ended}
use Rattle.node_threads.proofs.Placed.{ended_stuck}
use Rattle.node_threads.proofs.body.run_steps.Goals as goal

pub returns-clause-ended : goal.returns-clause-ended
returns-clause-ended g c =
    let start = g.P.Plan.start c.args.plan in
    let a = c.take_steps.new.seat in
    subst (λ (o : Option Ended). ForSome o (IsEnded start c.args.rounds c.args.stop a))
    (sym c.end_of.ensures)
    (ended_stuck start c.args.rounds c.args.stop a c.in-Err.halt c.in-Err.ensures.cut)
