use Rattle.std.proofs.Common.{◌≡◌, ◌∷◌, [], map}
use Rattle.std.specs.List.{range_with_len}
use Rattle.round_meaning.specs.Rounds.{algorithm_of}
use Rattle.step_book.specs.Log.{rows_of}
use Rattle.step_book.proofs.opening.first_rows.Given as goal

abbrev pub invariant-loop-node : goal.invariant-loop-node
invariant-loop-node l = rows_of l.rows.items
    ≡ map (λ i. (algorithm_of l.program l.setup).init i ∷ []) (range_with_len 0 l.node)
