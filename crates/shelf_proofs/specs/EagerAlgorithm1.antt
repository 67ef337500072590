-- The program of Algorithm 1 whose nodes send in every fourth round.
use Rattle.std.specs.Prelude.{ℕ, [], ◌∷◌}
use Rattle.round_lang.specs.declared.expr.Constant.TheVariants.{True}
use Rattle.round_lang.specs.Syntax.{BlockTree, ProgramTree}
use Rattle.round_lang.specs.Tree.{TFixed}
use Rattle.round_meaning.specs.Algorithm1.{acknowledging, dls1, listing, locking, releasing}

-- locks and proper values go to all, also where there is no lock
abbrev pub telling : BlockTree
telling = record releasing { condition = TFixed True }

-- the program, over the values 0 to k-1: that of Algorithm 1 but for its fourth round
abbrev pub eager_algorithm_1_tree : ℕ → ProgramTree
eager_algorithm_1_tree k =
    record (dls1 k) { blocks = listing ∷ locking ∷ acknowledging ∷ telling ∷ [] }
