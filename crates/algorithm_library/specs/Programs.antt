-- The programs that come with the product, over the values 0 to k-1. Algorithm 1 stands in
-- round_meaning.
use Rattle.std.specs.Prelude.{ℕ, [], ◌∷◌, codes}
use Rattle.round_lang.specs.declared.expr.BinaryOperator.TheVariants.{Add, Div, Entry, Equal, More}
use Rattle.round_lang.specs.declared.expr.BinaryOperator.TheVariants.{Union}
use Rattle.round_lang.specs.declared.expr.Constant.TheVariants.{Empty, Nodes, True, Zero}
use Rattle.round_lang.specs.declared.expr.Ty.TheVariants as ty
use Rattle.round_lang.specs.declared.expr.UnaryOperator.TheVariants.{Single}
use Rattle.round_lang.specs.declared.program.VariableKind.TheVariants.{Input, State}
use Rattle.round_lang.specs.Syntax.{BlockTree, ProgramTree}
use Rattle.round_lang.specs.Tree.{Tree, TBinary, TFixed, TIf, TNamed, TNumber, TRowOf, TSetOf}
use Rattle.round_lang.specs.Tree.{TUnary}

-- a variable, by its name
abbrev pub x : Tree
x = TNamed (codes "x")

abbrev pub seen : Tree
seen = TNamed (codes "seen")

abbrev pub votes : Tree
votes = TNamed (codes "votes")

-- votes[w]
abbrev pub votes_for : Tree
votes_for = TBinary Entry votes (TNamed (codes "w"))

-- at 1: message (s: set) send when true: (seen) on message: seen := seen union s; end:
abbrev pub gather_round : BlockTree
gather_round = record {
  number = 1;
  fields = record { name = codes "s"; ty = ty.Set } ∷ [];
  condition = TFixed True;
  sent = seen ∷ [];
  on_message =
      record { target = codes "seen"; formula = TBinary Union seen (TNamed (codes "s")) } ∷ [];
  end = [];
}

-- values k period 1 input x state seen: set = single(x) decide seen, and this round
abbrev pub gather_tree : ℕ → ProgramTree
gather_tree k = record {
  values = k;
  period = 1;
  variables =
      record { name = codes "x"; kind = Input }
      ∷ record { name = codes "seen"; kind = State ty.Set (TUnary Single x) } ∷ [];
  decides = codes "seen" ∷ [];
  blocks = gather_round ∷ [];
}

-- [w : if w = v then votes[w] + 1 else votes[w]]
abbrev pub one_vote_more : Tree
one_vote_more =
    TRowOf (codes "w") (TIf (TBinary Equal (TNamed (codes "w")) (TNamed (codes "v")))
    (TBinary Add votes_for (TNumber 1)) votes_for)

-- {w : votes[w] > n div 2}
abbrev pub winners : Tree
winners = TSetOf (codes "w") (TBinary More votes_for (TBinary Div (TFixed Nodes) (TNumber 2)))

-- at 1: message (v: num) send when true: (x), counted on message, and at the end evaluated
abbrev pub votes_round : BlockTree
votes_round = record {
  number = 1;
  fields = record { name = codes "v"; ty = ty.Num } ∷ [];
  condition = TFixed True;
  sent = x ∷ [];
  on_message = record { target = codes "votes"; formula = one_vote_more } ∷ [];
  end =
      record { target = codes "top"; formula = winners }
      ∷ record { target = codes "last"; formula = votes }
      ∷ record { target = codes "votes"; formula = TFixed Zero } ∷ [];
}

-- values k period 1 input x state votes: row = zero state last: row = zero state top: set = empty
-- decide top, and this round
abbrev pub count_votes_tree : ℕ → ProgramTree
count_votes_tree k = record {
  values = k;
  period = 1;
  variables =
      record { name = codes "x"; kind = Input }
      ∷ record { name = codes "votes"; kind = State ty.Row (TFixed Zero) }
      ∷ record { name = codes "last"; kind = State ty.Row (TFixed Zero) }
      ∷ record { name = codes "top"; kind = State ty.Set (TFixed Empty) } ∷ [];
  decides = codes "top" ∷ [];
  blocks = votes_round ∷ [];
}
