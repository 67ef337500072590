use Rattle.std.proofs.Common.{◌≡◌}
use Rattle.std.specs.Prelude.{All}
use Rattle.step_machine.specs.Nodes.{NodeView}
use Rattle.run_tests.proofs.journal.answer_all.Given as goal

abbrev pub invariant-loop-line : goal.invariant-loop-line
invariant-loop-line l = record {
  program : l.journal.log.program ≡ l.program;
  setup : l.journal.log.setup ≡ l.setup;
  nodes : All (λ (n : NodeView). (n.program ≡ l.program) × (n.setup ≡ l.setup)) l.nodes.items;
}
