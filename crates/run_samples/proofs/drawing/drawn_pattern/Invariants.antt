use Rattle.std.proofs.Common.{◌≡◌, ◌+◌, ◌-◌, ◌≤◌, length}
use Rattle.std.specs.List.{All, count_by, range_with_len}
use Rattle.round_explorer.specs.Questions.{IsOfKind, is_faulty}
use Rattle.round_explorer.specs.Searched.{has_stopped}
use Rattle.run_samples.proofs.drawing.drawn_pattern.Given as goal

abbrev pub invariant-loop-node : goal.invariant-loop-node
invariant-loop-node l =
    record {
      each_node : length l.pattern.items ≡ l.node;
      kinds : All (IsOfKind l.question.faults l.setup.rounds) l.pattern.items;
      few : count_by is_faulty l.pattern.items + l.left ≤ l.setup.faults;
      enough : count_by (has_stopped l.pattern.items l.setup.rounds) (range_with_len 0 l.node)
          + l.spare ≤ l.setup.nodes - l.question.hears;
    }
