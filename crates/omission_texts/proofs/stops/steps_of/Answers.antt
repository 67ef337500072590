use Rattle.std.proofs.Common.{◌+◌, arith}
use Rattle.slot_plans.proofs.Rounds.{start-fits}
use Rattle.omission_texts.proofs.stops.steps_of.Goals as goal

pub overflow_add-result : goal.overflow_add-result
overflow_add-result g c =
    let laws = g.met.P.Plan.laws c.args.plan.now in
    let round = c.crash_round-round.result in
    let first = c.crash_round-round.ensures.first in
    let next = laws.next_start round first in
    let end = start-fits laws (round + 1) (omega (arith, first))
    (omega (arith, c.if-round-setup.true, c.requires.rounds)) in
    omega (arith, c.start.ensures, c.nodes.ensures, next, end)
