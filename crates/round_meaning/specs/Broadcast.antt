-- When all nodes are sent the same.
use Rattle.std.specs.Prelude.{◌≡◌, ℕ, Bool, true, false, ◌||◌, List, [], ◌∷◌, Option, Some, None}
use Rattle.round_lang.specs.declared.expr.Constant.{Constant}
use Rattle.round_lang.specs.declared.expr.Constant.TheVariants.{True, False, Empty, All, Zero, Me}
use Rattle.round_lang.specs.declared.expr.Constant.TheVariants.{Nodes, Faults, Round, Phase, Dest}
use Rattle.round_lang.specs.declared.expr.Constant.TheVariants.{From}
use Rattle.round_lang.specs.declared.value.Value.{Value}
use Rattle.round_lang.specs.Syntax.{BlockTree}
use Rattle.round_lang.specs.Tree.{Tree, TNumber, TFixed, TNamed, TUnary, TBinary, TIf, TSetOf}
use Rattle.round_lang.specs.Tree.{TRowOf}
use Rattle.round_meaning.specs.Rounds.{Algorithm}

abbrev pub is_dest : Constant → Bool
is_dest True = false
is_dest False = false
is_dest Empty = false
is_dest All = false
is_dest Zero = false
is_dest Me = false
is_dest Nodes = false
is_dest Faults = false
is_dest Round = false
is_dest Phase = false
is_dest Dest = true
is_dest From = false

-- `dest` stands in the expression
abbrev pub names_dest : Tree → Bool
names_dest (TNumber n) = false
names_dest (TFixed c) = is_dest c
names_dest (TNamed x) = false
names_dest (TUnary op a) = names_dest a
names_dest (TBinary op a b) = names_dest a || names_dest b
names_dest (TIf c a b) = names_dest c || (names_dest a || names_dest b)
names_dest (TSetOf x e) = names_dest e
names_dest (TRowOf x e) = names_dest e

-- `dest` stands in one of the expressions
abbrev pub any_names_dest : List Tree → Bool
any_names_dest [] = false
any_names_dest (e ∷ es) = names_dest e || any_names_dest es

-- `dest` stands in what the block says of sending
abbrev pub sends_by_dest : Option BlockTree → Bool
sends_by_dest None = false
sends_by_dest (Some b) = names_dest b.condition || any_names_dest b.sent

-- in this round a node in a state sends the same to every node
abbrev pub IsBroadcast : Algorithm → ℕ → Type 0
IsBroadcast a r = (vs : List Value) (j i k : ℕ) → a.send r vs j i ≡ a.send r vs j k
