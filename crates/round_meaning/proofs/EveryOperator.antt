-- A run that computes, of a program with every operator, constant and form: two nodes over three
-- values, with the inputs 0 and 1. The values are worked out by hand.
use Rattle.std.proofs.Common.{◌≡◌, ℕ, true, List, [], ◌∷◌, refl}
use Rattle.std.specs.Prelude.{codes, slice_index}
use Rattle.round_lang.specs.declared.expr.BinaryOperator.TheVariants.{Add, Sub, Div, Mod, Equal}
use Rattle.round_lang.specs.declared.expr.BinaryOperator.TheVariants.{Differs, Less, AtMost, More}
use Rattle.round_lang.specs.declared.expr.BinaryOperator.TheVariants.{AtLeast, And, Or, Union}
use Rattle.round_lang.specs.declared.expr.BinaryOperator.TheVariants.{Inter, Minus, Has, Entry}
use Rattle.round_lang.specs.declared.expr.Constant.TheVariants.{True, False, Empty, All, Zero, Me}
use Rattle.round_lang.specs.declared.expr.Constant.TheVariants.{Nodes, Faults, Round, Phase, Dest}
use Rattle.round_lang.specs.declared.expr.Constant.TheVariants.{From}
use Rattle.round_lang.specs.declared.expr.Ty.TheVariants.{Num as NumTy, Bool as BoolTy}
use Rattle.round_lang.specs.declared.expr.Ty.TheVariants.{Set as SetTy, Row as RowTy}
use Rattle.round_lang.specs.declared.expr.UnaryOperator.TheVariants.{Not, Single, Size, Least}
use Rattle.round_lang.specs.declared.program.VariableKind.TheVariants.{Input, State}
use Rattle.round_lang.specs.declared.value.Value.{Value}
use Rattle.round_lang.specs.declared.value.Value.TheVariants.{Num, Flag, Row}
use Rattle.round_lang.specs.Sets.{is_in, members, set_of}
use Rattle.round_lang.specs.Syntax.{ProgramTree}
use Rattle.round_lang.specs.Tree.{Tree, TBinary, TFixed, TIf, TNamed, TNumber, TRowOf, TSetOf}
use Rattle.round_lang.specs.Tree.{TUnary}
use Rattle.round_lang.specs.Values.{of_set}
use Rattle.round_meaning.specs.declared.omissions.Omission.{Omission}
use Rattle.round_meaning.specs.Omissions.{is_omitted}
use Rattle.round_meaning.specs.Rounds.{algorithm, inbox, rounds}

abbrev named : List ℕ → Tree
named name = TNamed name

-- dest <> me and not false
abbrev condition : Tree
condition = TBinary And (TBinary Differs (TFixed Dest) (TFixed Me)) (TUnary Not (TFixed False))

-- x + round - t
abbrev sent_number : Tree
sent_number = TBinary Sub (TBinary Add (named (codes "x")) (TFixed Round)) (TFixed Faults)

-- {y : y <= x or y = 2}
abbrev sent_set : Tree
sent_set = TSetOf (codes "y")
    (TBinary Or (TBinary AtMost (named (codes "y")) (named (codes "x")))
    (TBinary Equal (named (codes "y")) (TNumber 2)))

-- [y : if y < 2 then y + n else y div 2]
abbrev sent_row : Tree
sent_row = TRowOf (codes "y")
    (TIf (TBinary Less (named (codes "y")) (TNumber 2))
    (TBinary Add (named (codes "y")) (TFixed Nodes)) (TBinary Div (named (codes "y")) (TNumber 2)))

-- (s union q) minus single(from)
abbrev next_set : Tree
next_set = TBinary Minus (TBinary Union (named (codes "s")) (named (codes "q")))
    (TUnary Single (TFixed From))

-- [y : r[y] + w[y] mod 3]
abbrev next_row : Tree
next_row = TRowOf (codes "y")
    (TBinary Add (TBinary Entry (named (codes "r")) (named (codes "y")))
    (TBinary Mod (TBinary Entry (named (codes "w")) (named (codes "y"))) (TNumber 3)))

-- has(s, 2) and size(s inter all) >= 1 and true
abbrev flag_at_end : Tree
flag_at_end =
    TBinary And (TBinary And (TBinary Has (named (codes "s")) (TNumber 2))
    (TBinary AtLeast (TUnary Size (TBinary Inter (named (codes "s")) (TFixed All))) (TNumber 1)))
    (TFixed True)

-- if c and least(s) > 0 then a + phase else a mod 2
abbrev number_at_end : Tree
number_at_end =
    TIf (TBinary And (named (codes "c"))
    (TBinary More (TUnary Least (named (codes "s"))) (TNumber 0)))
    (TBinary Add (named (codes "a")) (TFixed Phase)) (TBinary Mod (named (codes "a")) (TNumber 2))

abbrev every_operator : ProgramTree
every_operator = record {
  values = 3;
  period = 1;
  variables = record { name = codes "x"; kind = Input } ∷ record {
    name = codes "a";
    kind = State NumTy (TNumber 0);
  }
      ∷ record { name = codes "c"; kind = State BoolTy (TFixed False) } ∷ record {
        name = codes "s";
        kind = State SetTy (TFixed Empty);
      }
      ∷ record { name = codes "r"; kind = State RowTy (TFixed Zero) } ∷ [];
  decides = codes "s" ∷ [];
  blocks = record {
    number = 1;
    fields = record { name = codes "m"; ty = NumTy } ∷ record { name = codes "q"; ty = SetTy }
        ∷ record { name = codes "w"; ty = RowTy } ∷ [];
    condition = condition;
    sent = sent_number ∷ sent_set ∷ sent_row ∷ [];
    on_message = record { target = codes "s"; formula = next_set } ∷ record {
      target = codes "r";
      formula = next_row;
    }
        ∷ record {
          target = codes "a";
          formula = TBinary Add (named (codes "a")) (named (codes "m"));
        } ∷ [];
    end = record { target = codes "c"; formula = flag_at_end } ∷ record {
      target = codes "a";
      formula = number_at_end;
    }
        ∷ record {
          target = codes "s";
          formula = TIf (named (codes "c")) (named (codes "s")) (TFixed Empty);
        } ∷ [];
  } ∷ [];
}

-- node 0 doesn't get node 1's message of round 2
abbrev omission : Omission
omission = record { receiver = 0; round = 2; sender = 1 }

abbrev after : ℕ → ℕ → List Value
after = rounds (algorithm every_operator 2 1 (slice_index (0 ∷ 1 ∷ [])))
    (is_omitted (omission ∷ []))

-- node 0 gets 1, {0,1,2} and [2,3,1]
first_after_one : after 1 0 ≡ Num 0 ∷ Num 1 ∷ Flag true ∷ of_set 5 ∷ Row (2 ∷ 0 ∷ 1 ∷ []) ∷ []
unfolding algorithm inbox rounds set_of is_in members
first_after_one = refl

-- node 1 gets 0, {0,2} and [2,3,1]
second_after_one : after 1 1 ≡ Num 1 ∷ Num 1 ∷ Flag true ∷ of_set 4 ∷ Row (2 ∷ 0 ∷ 1 ∷ []) ∷ []
unfolding algorithm inbox rounds set_of is_in members
second_after_one = refl

-- node 0 gets nothing
first_after_two : after 2 0 ≡ Num 0 ∷ Num 1 ∷ Flag true ∷ of_set 5 ∷ Row (2 ∷ 0 ∷ 1 ∷ []) ∷ []
unfolding algorithm inbox rounds set_of is_in members
first_after_two = refl

-- node 1 gets 1, {0,2} and [2,3,1]
second_after_two : after 2 1 ≡ Num 1 ∷ Num 4 ∷ Flag true ∷ of_set 4 ∷ Row (4 ∷ 0 ∷ 2 ∷ []) ∷ []
unfolding algorithm inbox rounds set_of is_in members
second_after_two = refl
