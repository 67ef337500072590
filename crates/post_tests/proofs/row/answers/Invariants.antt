use Rattle.std.proofs.Common.{◌≡◌}
use Rattle.std.specs.Prelude.{All}
use Rattle.step_machine.specs.Nodes.{NodeView}
use Rattle.post_tests.proofs.row.answers.Given as goal

abbrev pub invariant-loop-event : goal.invariant-loop-event
invariant-loop-event g l = record {
  program : g.C.Recorder.program l.recorder ≡ l.program;
  setup : l.schedule.setup ≡ g.C.Recorder.setup l.recorder;
  nodes : All (λ (n : NodeView). (n.program ≡ l.program)
      × (n.setup ≡ l.schedule.setup)) l.nodes.items;
}
