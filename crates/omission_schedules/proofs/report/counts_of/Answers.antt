use Rattle.std.proofs.Common.{◌≡◌, ◌+◌, ◌∙◌, ap}
use Rattle.std.specs.Prelude.{min, slice_index}
use Rattle.round_meaning.proofs.Lists.{map_push}
use Rattle.omission_schedules.specs.Reports.{count_until}
use Rattle.omission_schedules.proofs.report.counts_of.Goals as goal

pub loop-node-preserved : goal.loop-node-preserved
loop-node-preserved g c =
    let start = g.P.Plan.start c.args.run.now.plan in
    let stops = slice_index c.args.run.now.stops.now in
    let rounds = c.args.run.now.setup.now.rounds in
    let i = c.loop-node.node in
    let steps : c.from.result ≡ min (start (rounds + 1)) (stops i) =
    c.from.ensures ∙ c.min-steps.ensures ∙ ap (λ k. min k (stops i)) c.start-all.ensures in
    map_push (count_until start stops rounds) c.loop-node.counts.items _ i
    (c.from.result, c.ended_by.result) c.loop-node.invariant
    (ap (λ k. (k, c.ended_by.result)) steps
    ∙ ap (λ k. (min (start (rounds + 1)) (stops i), k)) c.ended_by.ensures)
    c.in_ok-push.ensures.items
