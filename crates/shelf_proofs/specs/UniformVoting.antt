-- The program of UniformVoting.
use Rattle.std.specs.Prelude.{ℕ, [], ◌∷◌, codes}
use Rattle.round_lang.specs.declared.expr.BinaryOperator.TheVariants.{And, Equal, More, Union}
use Rattle.round_lang.specs.declared.expr.Constant.TheVariants.{Empty, True}
use Rattle.round_lang.specs.declared.expr.Ty.TheVariants as ty
use Rattle.round_lang.specs.declared.expr.UnaryOperator.TheVariants.{Least, Single, Size}
use Rattle.round_lang.specs.declared.program.VariableKind.TheVariants.{Input, State}
use Rattle.round_lang.specs.Syntax.{BlockTree, ProgramTree}
use Rattle.round_lang.specs.Tree.{TBinary, TFixed, TIf, TNamed, TNumber, TUnary}

-- what is done in round 1 of a phase
abbrev pub block1 : BlockTree
block1 = record {
  number = 1;
  fields = record { name = codes "v"; ty = ty.Num } ∷ [];
  condition = TFixed True;
  sent = TNamed (codes "x") ∷ [];
  on_message = record {
    target = codes "open";
    formula = TBinary Union (TNamed (codes "open"))
        (TUnary Single (TNamed (codes "v")));
  } ∷ [];
  end = record {
    target = codes "vote";
    formula = TIf (TBinary Equal (TUnary Size (TNamed (codes "open"))) (TNumber 1))
        (TNamed (codes "open")) (TFixed Empty);
  }
      ∷ record {
        target = codes "x";
        formula = TIf (TBinary More (TUnary Size (TNamed (codes "open"))) (TNumber 0))
            (TUnary Least (TNamed (codes "open"))) (TNamed (codes "x"));
      }
      ∷ record { target = codes "open"; formula = TFixed Empty } ∷ [];
}

-- what is done in round 2 of a phase
abbrev pub block2 : BlockTree
block2 = record {
  number = 2;
  fields = record { name = codes "v"; ty = ty.Num } ∷ record { name = codes "w"; ty = ty.Set } ∷ [];
  condition = TFixed True;
  sent = TNamed (codes "x") ∷ TNamed (codes "vote") ∷ [];
  on_message = record {
    target = codes "votes";
    formula = TBinary Union (TNamed (codes "votes"))
        (TNamed (codes "w"));
  }
      ∷ record {
        target = codes "open";
        formula = TIf (TBinary Equal (TUnary Size (TNamed (codes "w"))) (TNumber 0))
            (TBinary Union (TNamed (codes "open")) (TUnary Single (TNamed (codes "v"))))
            (TNamed (codes "open"));
      } ∷ [];
  end = record {
    target = codes "done";
    formula = TIf (TBinary And (TBinary Equal (TUnary Size (TNamed (codes "votes"))) (TNumber 1))
        (TBinary Equal (TUnary Size (TNamed (codes "open"))) (TNumber 0))) (TNamed (codes "votes"))
        (TNamed (codes "done"));
  }
      ∷ record {
        target = codes "x";
        formula = TIf (TBinary More (TUnary Size (TNamed (codes "votes"))) (TNumber 0))
            (TUnary Least (TNamed (codes "votes")))
            (TIf (TBinary More (TUnary Size (TNamed (codes "open"))) (TNumber 0))
            (TUnary Least (TNamed (codes "open"))) (TNamed (codes "x")));
      }
      ∷ record { target = codes "vote"; formula = TFixed Empty }
      ∷ record { target = codes "votes"; formula = TFixed Empty }
      ∷ record { target = codes "open"; formula = TFixed Empty } ∷ [];
}

-- the program of UniformVoting, over the values 0 to k-1
abbrev pub uniform_voting_tree : ℕ → ProgramTree
uniform_voting_tree k = record {
  values = k;
  period = 2;
  variables = record { name = codes "x"; kind = Input }
      ∷ record { name = codes "vote"; kind = State ty.Set (TFixed Empty) }
      ∷ record { name = codes "votes"; kind = State ty.Set (TFixed Empty) }
      ∷ record { name = codes "open"; kind = State ty.Set (TFixed Empty) }
      ∷ record { name = codes "done"; kind = State ty.Set (TFixed Empty) } ∷ [];
  decides = codes "done" ∷ [];
  blocks = block1 ∷ block2 ∷ [];
}
