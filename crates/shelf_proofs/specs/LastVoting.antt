-- The program of LastVoting.
use Rattle.std.specs.Prelude.{ℕ, [], ◌∷◌, codes}
use Rattle.round_lang.specs.declared.expr.BinaryOperator.TheVariants.{Add, And, Div, Equal, Mod}
use Rattle.round_lang.specs.declared.expr.BinaryOperator.TheVariants.{More, Or, Sub}
use Rattle.round_lang.specs.declared.expr.Constant.TheVariants.{Dest, Empty, False, Nodes, Phase}
use Rattle.round_lang.specs.declared.expr.Ty.TheVariants as ty
use Rattle.round_lang.specs.declared.expr.UnaryOperator.TheVariants.{Least, Single, Size}
use Rattle.round_lang.specs.declared.program.VariableKind.TheVariants.{Input, State}
use Rattle.round_lang.specs.Syntax.{BlockTree, ProgramTree}
use Rattle.round_lang.specs.Tree.{TBinary, TFixed, TIf, TNamed, TNumber, TUnary}

-- what is done in round 1 of a phase
abbrev pub block1 : BlockTree
block1 = record {
  number = 1;
  fields = record { name = codes "v"; ty = ty.Num } ∷ record { name = codes "s"; ty = ty.Num } ∷ [];
  condition = TBinary Equal (TFixed Dest) (TBinary Mod (TBinary Sub (TFixed Phase) (TNumber 1))
      (TFixed Nodes));
  sent = TNamed (codes "x") ∷ TNamed (codes "stamp") ∷ [];
  on_message = record {
    target = codes "vote";
    formula = TIf (TBinary Or (TBinary Equal (TNamed (codes "count")) (TNumber 0))
        (TBinary More (TNamed (codes "s")) (TNamed (codes "newest"))))
        (TUnary Single (TNamed (codes "v"))) (TNamed (codes "vote"));
  }
      ∷ record {
        target = codes "newest";
        formula = TIf (TBinary More (TNamed (codes "s")) (TNamed (codes "newest")))
            (TNamed (codes "s")) (TNamed (codes "newest"));
      }
      ∷ record {
        target = codes "count";
        formula = TBinary Add (TNamed (codes "count")) (TNumber 1);
      } ∷ [];
  end = record {
    target = codes "vote";
    formula = TIf (TBinary More (TNamed (codes "count")) (TBinary Div (TFixed Nodes) (TNumber 2)))
        (TNamed (codes "vote")) (TFixed Empty);
  }
      ∷ record { target = codes "newest"; formula = TNumber 0 }
      ∷ record { target = codes "count"; formula = TNumber 0 } ∷ [];
}

-- what is done in round 2 of a phase
abbrev pub block2 : BlockTree
block2 = record {
  number = 2;
  fields = record { name = codes "v"; ty = ty.Num } ∷ [];
  condition = TBinary More (TUnary Size (TNamed (codes "vote"))) (TNumber 0);
  sent = TUnary Least (TNamed (codes "vote")) ∷ [];
  on_message = record { target = codes "x"; formula = TNamed (codes "v") }
      ∷ record { target = codes "stamp"; formula = TFixed Phase } ∷ [];
  end = [];
}

-- what is done in round 3 of a phase
abbrev pub block3 : BlockTree
block3 = record {
  number = 3;
  fields = [];
  condition = TBinary And (TBinary Equal (TNamed (codes "stamp")) (TFixed Phase))
      (TBinary Equal (TFixed Dest) (TBinary Mod (TBinary Sub (TFixed Phase) (TNumber 1))
      (TFixed Nodes)));
  sent = [];
  on_message = record {
    target = codes "count";
    formula = TBinary Add (TNamed (codes "count"))
        (TNumber 1);
  } ∷ [];
  end = record {
    target = codes "ready";
    formula = TBinary More (TNamed (codes "count"))
        (TBinary Div (TFixed Nodes) (TNumber 2));
  }
      ∷ record { target = codes "count"; formula = TNumber 0 } ∷ [];
}

-- what is done in round 4 of a phase
abbrev pub block4 : BlockTree
block4 = record {
  number = 4;
  fields = record { name = codes "v"; ty = ty.Num } ∷ [];
  condition = TNamed (codes "ready");
  sent = TUnary Least (TNamed (codes "vote")) ∷ [];
  on_message = record { target = codes "done"; formula = TUnary Single (TNamed (codes "v")) } ∷ [];
  end = record { target = codes "vote"; formula = TFixed Empty }
      ∷ record { target = codes "ready"; formula = TFixed False } ∷ [];
}

-- the program of LastVoting, over the values 0 to k-1
abbrev pub last_voting_tree : ℕ → ProgramTree
last_voting_tree k = record {
  values = k;
  period = 4;
  variables = record { name = codes "x"; kind = Input }
      ∷ record { name = codes "stamp"; kind = State ty.Num (TNumber 0) }
      ∷ record { name = codes "count"; kind = State ty.Num (TNumber 0) }
      ∷ record { name = codes "newest"; kind = State ty.Num (TNumber 0) }
      ∷ record { name = codes "vote"; kind = State ty.Set (TFixed Empty) }
      ∷ record { name = codes "ready"; kind = State ty.Bool (TFixed False) }
      ∷ record { name = codes "done"; kind = State ty.Set (TFixed Empty) } ∷ [];
  decides = codes "done" ∷ [];
  blocks = block1 ∷ block2 ∷ block3 ∷ block4 ∷ [];
}
