use Rattle.std.specs.Prelude.{All, take}
use Rattle.proved_programs.specs.Proved.{IsOf}
use Rattle.proved_programs.proofs.recognizing.algorithm_of.Given as goal

-- the program is of none of the algorithms that were tried
abbrev pub invariant-loop-algorithm : goal.invariant-loop-algorithm
invariant-loop-algorithm l =
    All (λ a. IsOf a l.program → ⊥) (take l.algorithm-index l.algorithm-items)
