use Rattle.std.proofs.Common.{◌≡◌, ap, subst, sym}
use Rattle.std.specs.Prelude.{All}
use Rattle.std.proofs.lemmas.List.Elements.{All-push}
use Rattle.step_machine.specs.Nodes.{NodeView}
use Rattle.post_tests.proofs.row.all_nodes.Goals as goal

pub loop-me-preserved : goal.loop-me-preserved
loop-me-preserved c =
    let P : NodeView → Type 0 = λ (n : NodeView). (n.program ≡ c.args.program.now)
    × (n.setup ≡ c.args.setup.now) in
    let new = c.in_ok-new.ensures in
    subst (All P) (sym c.in_ok-push.ensures.items)
    (All-push P _ _ c.loop-me.invariant (
      ap (λ (n : NodeView). n.program) new,
      ap (λ (n : NodeView). n.setup) new,
    ))
