use Rattle.std.proofs.Common.{◌≡◌, ◌<◌, length}
use Rattle.std.specs.List.{All}
use Rattle.run_samples.proofs.drawing.any_inputs.Given as goal

abbrev pub invariant-loop-node : goal.invariant-loop-node
invariant-loop-node l =
    record {
      each_node : length l.inputs.items ≡ l._node;
      below : All (λ x. x < l.program.values) l.inputs.items;
    }
