-- The program of early-deciding flooding.
use Rattle.std.specs.Prelude.{ℕ, [], ◌∷◌, codes}
use Rattle.round_lang.specs.declared.expr.BinaryOperator.TheVariants.{Add, AtLeast, Equal, Or}
use Rattle.round_lang.specs.declared.expr.BinaryOperator.TheVariants.{Union}
use Rattle.round_lang.specs.declared.expr.Constant.TheVariants.{Empty, False, Faults, Nodes, Round}
use Rattle.round_lang.specs.declared.expr.Constant.TheVariants.{True}
use Rattle.round_lang.specs.declared.expr.Ty.TheVariants as ty
use Rattle.round_lang.specs.declared.expr.UnaryOperator.TheVariants.{Single}
use Rattle.round_lang.specs.declared.program.VariableKind.TheVariants.{Input, State}
use Rattle.round_lang.specs.Syntax.{BlockTree, ProgramTree}
use Rattle.round_lang.specs.Tree.{TBinary, TFixed, TIf, TNamed, TNumber, TUnary}

-- what is done in round 1 of a phase
abbrev pub block1 : BlockTree
block1 = record {
  number = 1;
  fields = record { name = codes "s"; ty = ty.Set } ∷ [];
  condition = TFixed True;
  sent = TNamed (codes "seen") ∷ [];
  on_message = record {
    target = codes "seen";
    formula = TBinary Union (TNamed (codes "seen")) (TNamed (codes "s"));
  }
      ∷ record {
        target = codes "heard";
        formula = TBinary Add (TNamed (codes "heard")) (TNumber 1);
      } ∷ [];
  end = record {
    target = codes "done";
    formula = TIf (TBinary Or (TNamed (codes "calm"))
        (TBinary AtLeast (TFixed Round) (TBinary Add (TFixed Faults) (TNumber 1))))
        (TNamed (codes "seen")) (TNamed (codes "done"));
  }
      ∷ record {
        target = codes "calm";
        formula = TBinary Or (TNamed (codes "calm"))
            (TBinary Equal (TNamed (codes "heard")) (TNamed (codes "before")));
      }
      ∷ record { target = codes "before"; formula = TNamed (codes "heard") }
      ∷ record { target = codes "heard"; formula = TNumber 0 } ∷ [];
}

-- the program of early-deciding flooding, over the values 0 to k-1
abbrev pub early_flooding_tree : ℕ → ProgramTree
early_flooding_tree k = record {
  values = k;
  period = 1;
  variables = record { name = codes "x"; kind = Input }
      ∷ record { name = codes "seen"; kind = State ty.Set (TUnary Single (TNamed (codes "x"))) }
      ∷ record { name = codes "heard"; kind = State ty.Num (TNumber 0) }
      ∷ record { name = codes "before"; kind = State ty.Num (TFixed Nodes) }
      ∷ record { name = codes "calm"; kind = State ty.Bool (TFixed False) }
      ∷ record { name = codes "done"; kind = State ty.Set (TFixed Empty) } ∷ [];
  decides = codes "done" ∷ [];
  blocks = block1 ∷ [];
}
