use Rattle.std.proofs.Common.{◌≡◌}
use Rattle.std.specs.Prelude.{All}
use Rattle.step_machine.specs.Nodes.{NodeView}
use Rattle.run_tests.proofs.journal.all_nodes.Given as goal

abbrev pub invariant-loop-place : goal.invariant-loop-place
invariant-loop-place l = All (λ (n : NodeView). (n.program ≡ l.program)
    × (n.setup ≡ l.setup)) l.nodes.items
