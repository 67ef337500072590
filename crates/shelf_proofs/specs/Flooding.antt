-- The program of flooding for t + 1 rounds.
use Rattle.std.specs.Prelude.{ℕ, [], ◌∷◌, codes}
use Rattle.round_lang.specs.declared.expr.BinaryOperator.TheVariants.{Add, AtLeast, AtMost, Union}
use Rattle.round_lang.specs.declared.expr.Constant.TheVariants.{Empty, Faults, Round}
use Rattle.round_lang.specs.declared.expr.Ty.TheVariants as ty
use Rattle.round_lang.specs.declared.expr.UnaryOperator.TheVariants.{Single}
use Rattle.round_lang.specs.declared.program.VariableKind.TheVariants.{Input, State}
use Rattle.round_lang.specs.Syntax.{BlockTree, ProgramTree}
use Rattle.round_lang.specs.Tree.{TBinary, TFixed, TIf, TNamed, TNumber, TUnary}

-- what is done in round 1 of a phase
abbrev pub block1 : BlockTree
block1 = record {
  number = 1;
  fields = record { name = codes "s"; ty = ty.Set } ∷ [];
  condition = TBinary AtMost (TFixed Round) (TBinary Add (TFixed Faults) (TNumber 1));
  sent = TNamed (codes "seen") ∷ [];
  on_message = record {
    target = codes "seen";
    formula = TBinary Union (TNamed (codes "seen"))
        (TNamed (codes "s"));
  } ∷ [];
  end = record {
    target = codes "chosen";
    formula = TIf (TBinary AtLeast (TFixed Round) (TBinary Add (TFixed Faults) (TNumber 1)))
        (TNamed (codes "seen")) (TFixed Empty);
  } ∷ [];
}

-- the program of flooding for t + 1 rounds, over the values 0 to k-1
abbrev pub flooding_tree : ℕ → ProgramTree
flooding_tree k = record {
  values = k;
  period = 1;
  variables = record { name = codes "x"; kind = Input }
      ∷ record { name = codes "seen"; kind = State ty.Set (TUnary Single (TNamed (codes "x"))) }
      ∷ record { name = codes "chosen"; kind = State ty.Set (TFixed Empty) } ∷ [];
  decides = codes "chosen" ∷ [];
  blocks = block1 ∷ [];
}
