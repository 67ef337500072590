use Rattle.std.proofs.Common.{◌≡◌, ◌∙◌, ◌<◌, ap, ap₂, arith, length, sym}
use Rattle.omission_texts.specs.Stops.{steps_of}
use Rattle.command_runs.specs.InChanges.{crash_stop, stop_below}
use Rattle.command_runs.proofs.Changed.{all_stops, none_of, one_of, steps_at, stop_count}
use Rattle.command_runs.proofs.changes.crash_stops.Goals as goal
use Rattle.command_runs.proofs.changes.crash_stops.Goals.{in-Some+in_ok-push, in_default}

pub index-requires : goal.index-requires
index-requires g c =
    let s = c.args.setup.now in
    let f = steps_of (g.P.Plan.nodes c.args.plan) (g.P.Plan.start c.args.plan) s
    c.args.omissions.now in
    let many : length c.in_ok-steps.steps.items ≡ s.nodes =
    stop_count f c.in_ok-steps.steps.items s.nodes c.in_ok-steps.ensures in
    omega (arith, many, c.loop-node-test.true, c.loop-node.auto.node-end)

pub loop-node-preserved : goal.loop-node-preserved
loop-node-preserved g c =
    let s = c.args.setup.now in
    let start = g.P.Plan.start c.args.plan in
    let ls = c.args.omissions.now in
    let n = c.loop-node.node in
    let h = crash_stop start s ls in
    let f = steps_of (g.P.Plan.nodes c.args.plan) start s ls in
    let below : n < s.nodes = omega (arith, c.loop-node-test.true, c.loop-node.auto.node-end) in
    let count = c.index.ensures ∙ steps_at f c.in_ok-steps.steps.items s.nodes n
    c.index.result.now c.in_ok-steps.ensures below ∙ ap (λ m. steps_of m start s ls n)
    c.requires.nodes in
    let is : c.stop_below.result ≡ h n = c.stop_below.ensures
    ∙ ap₂ (λ all k. stop_below all n k) c.start-all.ensures count in
    elim c.match-stop_below.branch [
      | in-Some+in_ok-push w ↦ one_of h _ _ n _ c.loop-node.invariant (sym is ∙ w.in-Some.is)
          (ap (λ v. v.items) w.stops-is ∙ w.in_ok-push.ensures.items)
      | in_default w ↦ ap (λ v. v.items) w.stops-is
          ∙ none_of h _ n c.loop-node.invariant (sym is ∙ w.in_default.is)
    ]

pub returns : goal.returns
returns g c =
    let s = c.args.setup.now in
    all_stops (crash_stop (g.P.Plan.start c.args.plan) s c.args.omissions.now) c.loop-node.node
    s.nodes c.loop-node.stops.items
    (omega (arith, c.loop-node-test.false, c.loop-node.auto.node-end)) c.loop-node.invariant
