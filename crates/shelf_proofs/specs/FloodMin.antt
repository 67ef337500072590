-- The program of FloodMin for k = 2.
use Rattle.std.specs.Prelude.{ℕ, [], ◌∷◌, codes}
use Rattle.round_lang.specs.declared.expr.BinaryOperator.TheVariants.{Add, Div, Equal, Less, Union}
use Rattle.round_lang.specs.declared.expr.Constant.TheVariants.{Empty, Faults, Round, True}
use Rattle.round_lang.specs.declared.expr.Ty.TheVariants as ty
use Rattle.round_lang.specs.declared.expr.UnaryOperator.TheVariants.{Least, Single}
use Rattle.round_lang.specs.declared.program.VariableKind.TheVariants.{Input, State}
use Rattle.round_lang.specs.Syntax.{BlockTree, ProgramTree}
use Rattle.round_lang.specs.Tree.{TBinary, TFixed, TIf, TNamed, TNumber, TUnary}

-- what is done in round 1 of a phase
abbrev pub block1 : BlockTree
block1 = record {
  number = 1;
  fields = record { name = codes "v"; ty = ty.Set } ∷ record { name = codes "c"; ty = ty.Set } ∷ [];
  condition = TFixed True;
  sent = TNamed (codes "lowest") ∷ TNamed (codes "chosen") ∷ [];
  on_message = record {
    target = codes "lowest";
    formula = TIf (TBinary Less (TUnary Least (TNamed (codes "v")))
        (TUnary Least (TNamed (codes "lowest")))) (TNamed (codes "v")) (TNamed (codes "lowest"));
  }
      ∷ record {
        target = codes "told";
        formula = TBinary Union (TNamed (codes "told"))
            (TNamed (codes "c"));
      } ∷ [];
  end = record {
    target = codes "chosen";
    formula = TIf (TBinary Equal (TFixed Round)
        (TBinary Add (TBinary Div (TFixed Faults) (TNumber 2)) (TNumber 1)))
        (TNamed (codes "lowest"))
        (TNamed (codes "chosen"));
  } ∷ [];
}

-- the program of FloodMin for k = 2, over the values 0 to k-1
abbrev pub floodmin_tree : ℕ → ProgramTree
floodmin_tree k = record {
  values = k;
  period = 1;
  variables = record { name = codes "x"; kind = Input }
      ∷ record { name = codes "lowest"; kind = State ty.Set (TUnary Single (TNamed (codes "x"))) }
      ∷ record { name = codes "chosen"; kind = State ty.Set (TFixed Empty) }
      ∷ record { name = codes "told"; kind = State ty.Set (TFixed Empty) } ∷ [];
  decides = codes "chosen" ∷ [];
  blocks = block1 ∷ [];
}
