use Rattle.std.proofs.Common.{◌+◌, arith}
use Rattle.slot_plans.proofs.Rounds.{start-fits}
use Rattle.exploration_texts.proofs.stops.steps_with.Goals as goal

pub overflow_add-result : goal.overflow_add-result
overflow_add-result g c =
    let laws = g.met.P.Plan.laws c.args.plan.now in
    let round = c.in-Crashes.round in
    let next = laws.next_start round (omega arith) in
    let end = start-fits laws (round + 1) (omega arith) (omega (arith, c.requires)) in
    omega (arith, c.start.ensures, c.nodes.ensures, next, end)
