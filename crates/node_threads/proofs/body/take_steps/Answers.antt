use Rattle.std.proofs.Common.{◌≡◌, ◌≤◌, Some, ap, arith, ◌∙◌}
use Rattle.locked_buffers.specs.Seats.{round_by}
use Rattle.node_threads.proofs.Placed.{fewer, stopped_there}
use Rattle.node_threads.proofs.body.take_steps.Goals as goal

pub returns-then-is_stop-clause-ended : goal.returns-then-is_stop-clause-ended
returns-then-is_stop-clause-ended g c =
    let p = c.args.plan in
    let a = c.loop-plan.seat in
    let l : round_by a ≤ c.args.rounds = omega (
      arith,
      c.loop-plan-test.true,
      c.round.ensures,
      c.loop-plan.invariant.together.round,
    ) in
    let e : c.args.stop ≡ Some a.steps = c.is_stop.ensures.0 c.if-is_stop.true
    ∙ ap Some c.steps.ensures in
    stopped_there (g.P.Plan.start p) (g.P.Plan.receives p) (g.P.Plan.nodes p)
    (g.met.P.Plan.laws p) c.args.rounds c.args.stop a c.loop-plan.invariant.place l e

pub loop-plan-smaller : goal.loop-plan-smaller
loop-plan-smaller g c =
    let p = c.args.plan in
    let a = c.loop-plan.seat in
    let l : round_by a ≤ c.args.rounds = omega (
      arith,
      c.loop-plan-test.true,
      c.round.ensures,
      c.loop-plan.invariant.together.round,
    ) in
    fewer (g.P.Plan.start p) (g.P.Plan.receives p) (g.P.Plan.nodes p)
    (g.met.P.Plan.laws p) c.args.rounds a c.step.new.seat c.loop-plan.invariant.place l
    c.in_ok-step.ensures.steps
