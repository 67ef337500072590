use Rattle.std.proofs.Common.{◌≡◌, ◌-◌, ◌∙◌, ap}
use Rattle.step_book.specs.Log.{round_of}
use Rattle.omission_explainer.proofs.Reports.{counts_push}
use Rattle.omission_explainer.proofs.explaining.counts_of.Goals as goal

pub loop-node-preserved : goal.loop-node-preserved
loop-node-preserved g c =
    let v = c.args.book.now.log in
    let i = c.loop-node.node in
    let closed : c.saturating_sub-closed.result ≡ round_of v i - 1 = c.saturating_sub-closed.ensures
    ∙ ap (λ k. k - 1) (c.from.ensures ∙ c.round_of.ensures.value) in
    counts_push v i _ _ c.loop-node.counts.items _ c.in_ok-push.ensures.items c.count_of.ensures
    closed c.loop-node.invariant
