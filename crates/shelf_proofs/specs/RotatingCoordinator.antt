-- The program of the rotating coordinator.
use Rattle.std.specs.Prelude.{ℕ, [], ◌∷◌, codes}
use Rattle.round_lang.specs.declared.expr.BinaryOperator.TheVariants.{Add, Div, Equal, Mod, More}
use Rattle.round_lang.specs.declared.expr.BinaryOperator.TheVariants.{Or, Sub}
use Rattle.round_lang.specs.declared.expr.Constant.TheVariants.{Dest, Empty, Nodes, Phase}
use Rattle.round_lang.specs.declared.expr.Ty.TheVariants as ty
use Rattle.round_lang.specs.declared.expr.UnaryOperator.TheVariants.{Least, Single, Size}
use Rattle.round_lang.specs.declared.program.VariableKind.TheVariants.{Input, State}
use Rattle.round_lang.specs.Syntax.{BlockTree, ProgramTree}
use Rattle.round_lang.specs.Tree.{TBinary, TFixed, TIf, TNamed, TNumber, TUnary}

-- what is done in round 1 of a phase
abbrev pub block1 : BlockTree
block1 = record {
  number = 1;
  fields = record { name = codes "v"; ty = ty.Num } ∷ record { name = codes "s"; ty = ty.Num } ∷ [];
  condition = TBinary Equal (TFixed Dest)
      (TBinary Mod (TBinary Sub (TFixed Phase) (TNumber 1)) (TFixed Nodes));
  sent = TNamed (codes "x") ∷ TNamed (codes "stamp") ∷ [];
  on_message = record {
    target = codes "pick";
    formula = TIf (TBinary Or (TBinary Equal (TNamed (codes "count")) (TNumber 0))
        (TBinary More (TNamed (codes "s")) (TNamed (codes "newest"))))
        (TUnary Single (TNamed (codes "v"))) (TNamed (codes "pick"));
  }
      ∷ record {
        target = codes "newest";
        formula = TIf (TBinary More (TNamed (codes "s")) (TNamed (codes "newest")))
            (TNamed (codes "s")) (TNamed (codes "newest"));
      }
      ∷ record {
        target = codes "count";
        formula = TBinary Add (TNamed (codes "count")) (TNumber 1);
      } ∷ [];
  end = record {
    target = codes "pick";
    formula = TIf (TBinary More (TNamed (codes "count")) (TBinary Div (TFixed Nodes) (TNumber 2)))
        (TNamed (codes "pick")) (TFixed Empty);
  }
      ∷ record { target = codes "newest"; formula = TNumber 0 }
      ∷ record { target = codes "count"; formula = TNumber 0 } ∷ [];
}

-- what is done in round 2 of a phase
abbrev pub block2 : BlockTree
block2 = record {
  number = 2;
  fields = record { name = codes "v"; ty = ty.Num } ∷ [];
  condition = TBinary More (TUnary Size (TNamed (codes "pick"))) (TNumber 0);
  sent = TUnary Least (TNamed (codes "pick")) ∷ [];
  on_message = record { target = codes "x"; formula = TNamed (codes "v") }
      ∷ record { target = codes "stamp"; formula = TFixed Phase } ∷ [];
  end = [];
}

-- what is done in round 3 of a phase
abbrev pub block3 : BlockTree
block3 = record {
  number = 3;
  fields = record { name = codes "ack"; ty = ty.Bool } ∷ [];
  condition = TBinary Equal (TFixed Dest)
      (TBinary Mod (TBinary Sub (TFixed Phase) (TNumber 1)) (TFixed Nodes));
  sent = TBinary Equal (TNamed (codes "stamp")) (TFixed Phase) ∷ [];
  on_message = record {
    target = codes "count";
    formula = TIf (TNamed (codes "ack")) (TBinary Add (TNamed (codes "count")) (TNumber 1))
        (TNamed (codes "count"));
  } ∷ [];
  end = record {
    target = codes "done";
    formula = TIf (TBinary More (TNamed (codes "count")) (TBinary Div (TFixed Nodes) (TNumber 2)))
        (TNamed (codes "pick")) (TNamed (codes "done"));
  }
      ∷ record { target = codes "count"; formula = TNumber 0 }
      ∷ record { target = codes "pick"; formula = TFixed Empty } ∷ [];
}

-- what is done in round 4 of a phase
abbrev pub block4 : BlockTree
block4 = record {
  number = 4;
  fields = record { name = codes "d"; ty = ty.Set } ∷ [];
  condition = TBinary More (TUnary Size (TNamed (codes "done"))) (TNumber 0);
  sent = TNamed (codes "done") ∷ [];
  on_message = record { target = codes "done"; formula = TNamed (codes "d") } ∷ [];
  end = [];
}

-- the program of the rotating coordinator, over the values 0 to k-1
abbrev pub rotating_coordinator_tree : ℕ → ProgramTree
rotating_coordinator_tree k = record {
  values = k;
  period = 4;
  variables = record { name = codes "x"; kind = Input }
      ∷ record { name = codes "stamp"; kind = State ty.Num (TNumber 0) }
      ∷ record { name = codes "count"; kind = State ty.Num (TNumber 0) }
      ∷ record { name = codes "newest"; kind = State ty.Num (TNumber 0) }
      ∷ record { name = codes "pick"; kind = State ty.Set (TFixed Empty) }
      ∷ record { name = codes "done"; kind = State ty.Set (TFixed Empty) } ∷ [];
  decides = codes "done" ∷ [];
  blocks = block1 ∷ block2 ∷ block3 ∷ block4 ∷ [];
}
