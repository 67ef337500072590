-- The program of OneThirdRule.
use Rattle.std.specs.Prelude.{ℕ, [], ◌∷◌, codes}
use Rattle.round_lang.specs.declared.expr.BinaryOperator.TheVariants.{Add, AtLeast, AtMost, Div}
use Rattle.round_lang.specs.declared.expr.BinaryOperator.TheVariants.{Entry, Equal, More}
use Rattle.round_lang.specs.declared.expr.Constant.TheVariants.{Empty, Nodes, True, Zero}
use Rattle.round_lang.specs.declared.expr.Ty.TheVariants as ty
use Rattle.round_lang.specs.declared.expr.UnaryOperator.TheVariants.{Least, Size}
use Rattle.round_lang.specs.declared.program.VariableKind.TheVariants.{Input, State}
use Rattle.round_lang.specs.Syntax.{BlockTree, ProgramTree}
use Rattle.round_lang.specs.Tree.{Tree, TBinary, TFixed, TIf, TNamed, TNumber, TRowOf, TSetOf}
use Rattle.round_lang.specs.Tree.{TUnary}

-- a variable, by its name
abbrev pub x : Tree
x = TNamed (codes "x")

abbrev pub heard : Tree
heard = TNamed (codes "heard")

abbrev pub votes : Tree
votes = TNamed (codes "votes")

-- votes[w]
abbrev pub votes_for : Tree
votes_for = TBinary Entry votes (TNamed (codes "w"))

-- e + e + e
abbrev pub thrice : Tree → Tree
thrice e = TBinary Add (TBinary Add e e) e

-- n + n
abbrev pub twice_n : Tree
twice_n = TBinary Add (TFixed Nodes) (TFixed Nodes)

-- [w : if w = v then votes[w] + 1 else votes[w]]
abbrev pub one_vote_more : Tree
one_vote_more =
    TRowOf (codes "w") (TIf (TBinary Equal (TNamed (codes "w")) (TNamed (codes "v")))
    (TBinary Add votes_for (TNumber 1)) votes_for)

-- {w : votes[w] + n div 3 >= heard}
abbrev pub all_but_a_third : Tree
all_but_a_third =
    TSetOf (codes "w") (TBinary AtLeast
    (TBinary Add votes_for (TBinary Div (TFixed Nodes) (TNumber 3))) heard)

-- {w : votes[w] > 0}
abbrev pub present : Tree
present = TSetOf (codes "w") (TBinary More votes_for (TNumber 0))

-- {w : votes[w] + votes[w] + votes[w] > n + n}
abbrev pub two_thirds : Tree
two_thirds = TSetOf (codes "w") (TBinary More (thrice votes_for) twice_n)

-- size(e) > 0
abbrev pub is_some : Tree → Tree
is_some e = TBinary More (TUnary Size e) (TNumber 0)

abbrev pub next_x : Tree
next_x =
    TIf (TBinary AtMost (thrice heard) twice_n) x
    (TIf (is_some all_but_a_third) (TUnary Least all_but_a_third) (TUnary Least present))

abbrev pub next_done : Tree
next_done = TIf (is_some two_thirds) two_thirds (TNamed (codes "done"))

abbrev pub the_round : BlockTree
the_round = record {
  number = 1;
  fields = record { name = codes "v"; ty = ty.Num } ∷ [];
  condition = TFixed True;
  sent = x ∷ [];
  on_message =
      record { target = codes "heard"; formula = TBinary Add heard (TNumber 1) }
      ∷ record { target = codes "votes"; formula = one_vote_more } ∷ [];
  end =
      record { target = codes "x"; formula = next_x }
      ∷ record { target = codes "done"; formula = next_done }
      ∷ record { target = codes "heard"; formula = TNumber 0 }
      ∷ record { target = codes "votes"; formula = TFixed Zero } ∷ [];
}

-- the program of OneThirdRule, over the values 0 to k-1
abbrev pub one_third_rule_tree : ℕ → ProgramTree
one_third_rule_tree k = record {
  values = k;
  period = 1;
  variables =
      record { name = codes "x"; kind = Input }
      ∷ record { name = codes "heard"; kind = State ty.Num (TNumber 0) }
      ∷ record { name = codes "votes"; kind = State ty.Row (TFixed Zero) }
      ∷ record { name = codes "done"; kind = State ty.Set (TFixed Empty) } ∷ [];
  decides = codes "done" ∷ [];
  blocks = the_round ∷ [];
}
