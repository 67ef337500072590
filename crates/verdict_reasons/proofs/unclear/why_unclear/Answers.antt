use Rattle.std.proofs.Common.{arith}
use Rattle.verdict_reasons.proofs.Rounds.{too_early, too_short}
use Rattle.verdict_reasons.proofs.unclear.why_unclear.Goals as goal

pub returns-then-receives-delta : goal.returns-then-receives-delta
returns-then-receives-delta g c =
    let p = c.args.plan.now in
    too_short (g.P.Plan.nodes p) (g.P.Plan.receives p) (g.P.Plan.start p) (g.met.P.Plan.laws p)
    c.args.delta c.args.gst (omega (arith, c.receives.ensures, c.if-receives-delta.true))

pub returns-then-start-gst : goal.returns-then-start-gst
returns-then-start-gst g c =
    let p = c.args.plan.now in
    too_early (g.P.Plan.nodes p) (g.P.Plan.receives p) (g.P.Plan.start p) (g.met.P.Plan.laws p)
    c.args.delta c.args.gst (omega (arith, c.receives.ensures, c.if-receives-delta.false))
    (omega (arith, c.start.ensures, c.if-start-gst.true))
