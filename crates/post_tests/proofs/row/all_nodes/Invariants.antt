use Rattle.std.proofs.Common.{◌≡◌}
use Rattle.std.specs.Prelude.{All}
use Rattle.step_machine.specs.Nodes.{NodeView}
use Rattle.post_tests.proofs.row.all_nodes.Given as goal

abbrev pub invariant-loop-me : goal.invariant-loop-me
invariant-loop-me l = All (λ (n : NodeView). (n.program ≡ l.program)
    × (n.setup ≡ l.setup)) l.nodes.items
