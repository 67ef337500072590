-- The program of two-phase commit.
use Rattle.std.specs.Prelude.{ℕ, [], ◌∷◌, codes}
use Rattle.round_lang.specs.declared.expr.BinaryOperator.TheVariants.{Add, And, Equal}
use Rattle.round_lang.specs.declared.expr.Constant.TheVariants.{Dest, Empty, Me, Nodes, Phase}
use Rattle.round_lang.specs.declared.expr.Ty.TheVariants as ty
use Rattle.round_lang.specs.declared.expr.UnaryOperator.TheVariants.{Single}
use Rattle.round_lang.specs.declared.program.VariableKind.TheVariants.{Input, State}
use Rattle.round_lang.specs.Syntax.{BlockTree, ProgramTree}
use Rattle.round_lang.specs.Tree.{TBinary, TFixed, TIf, TNamed, TNumber, TUnary}

-- what is done in round 1 of a phase
abbrev pub block1 : BlockTree
block1 = record {
  number = 1;
  fields = record { name = codes "v"; ty = ty.Num } ∷ [];
  condition = TBinary And (TBinary Equal (TFixed Phase) (TNumber 1))
      (TBinary Equal (TFixed Dest) (TNumber 0));
  sent = TNamed (codes "x") ∷ [];
  on_message = record {
    target = codes "count";
    formula = TBinary Add (TNamed (codes "count"))
        (TNamed (codes "v"));
  } ∷ [];
  end = record {
    target = codes "verdict";
    formula = TIf (TBinary And (TBinary Equal (TFixed Me) (TNumber 0))
        (TBinary Equal (TFixed Phase) (TNumber 1)))
        (TUnary Single (TIf (TBinary Equal (TNamed (codes "count")) (TFixed Nodes)) (TNumber 1)
        (TNumber 0))) (TNamed (codes "verdict"));
  }
      ∷ record {
        target = codes "done";
        formula = TIf (TBinary Equal (TFixed Me) (TNumber 0))
            (TNamed (codes "verdict")) (TIf (TBinary Equal (TNamed (codes "x")) (TNumber 0))
            (TUnary Single (TNumber 0)) (TNamed (codes "done")));
      }
      ∷ record { target = codes "count"; formula = TNumber 0 } ∷ [];
}

-- what is done in round 2 of a phase
abbrev pub block2 : BlockTree
block2 = record {
  number = 2;
  fields = record { name = codes "v"; ty = ty.Set } ∷ [];
  condition = TBinary Equal (TFixed Me) (TNumber 0);
  sent = TNamed (codes "verdict") ∷ [];
  on_message = record { target = codes "done"; formula = TNamed (codes "v") } ∷ [];
  end = [];
}

-- the program of two-phase commit, over the values 0 to k-1
abbrev pub two_phase_commit_tree : ℕ → ProgramTree
two_phase_commit_tree k = record {
  values = k;
  period = 2;
  variables = record { name = codes "x"; kind = Input }
      ∷ record { name = codes "count"; kind = State ty.Num (TNumber 0) }
      ∷ record { name = codes "verdict"; kind = State ty.Set (TFixed Empty) }
      ∷ record { name = codes "done"; kind = State ty.Set (TFixed Empty) } ∷ [];
  decides = codes "done" ∷ [];
  blocks = block1 ∷ block2 ∷ [];
}
