-- Algorithm 1: consensus where fewer than half of the nodes fail, by stopping or by omissions.
-- Phase k has rounds 4k-3 to 4k, and node (k - 1) mod n owns it. A node locks a value with a phase.
use Rattle.std.specs.Prelude.{ℕ, List, [], ◌∷◌, codes, slice_index}
use Rattle.round_lang.specs.declared.block.Field.{Field}
use Rattle.round_lang.specs.declared.block.Assignment.{Assignment}
use Rattle.round_lang.specs.declared.expr.BinaryOperator.TheVariants.{Add, Sub, Mod, Equal, Differs}
use Rattle.round_lang.specs.declared.expr.BinaryOperator.TheVariants.{More, AtLeast, And, Union}
use Rattle.round_lang.specs.declared.expr.BinaryOperator.TheVariants.{Has, Entry}
use Rattle.round_lang.specs.declared.expr.Constant.TheVariants.{True, False, Empty, Zero, Me, Nodes}
use Rattle.round_lang.specs.declared.expr.Constant.TheVariants.{Faults, Phase, Dest}
use Rattle.round_lang.specs.declared.expr.Ty.{Ty}
use Rattle.round_lang.specs.declared.expr.Ty.TheVariants as ty
use Rattle.round_lang.specs.declared.expr.UnaryOperator.TheVariants.{Single, Size, Least}
use Rattle.round_lang.specs.declared.program.Variable.{Variable}
use Rattle.round_lang.specs.declared.program.VariableKind.TheVariants.{Input, State}
use Rattle.round_lang.specs.declared.value.Value.{Value}
use Rattle.round_lang.specs.declared.value.Value.TheVariants.{Num}
use Rattle.round_lang.specs.Syntax.{BlockTree, ProgramTree}
use Rattle.round_lang.specs.Tree.{Tree, TNumber, TFixed, TNamed, TUnary, TBinary, TIf, TSetOf}
use Rattle.round_lang.specs.Tree.{TRowOf}
use Rattle.round_lang.specs.Values.{row}
use Rattle.round_meaning.specs.Meaning.{find_var, or_value}

-- the node's input
abbrev pub x : List ℕ
x = codes "x"

-- the inputs that the node knows of
abbrev pub proper : List ℕ
proper = codes "proper"

-- for each value the phase of the node's lock on it, 0 for none
abbrev pub locks : List ℕ
locks = codes "locks"

-- at an owner, for each value how many nodes accept it
abbrev pub lists : List ℕ
lists = codes "lists"

-- at an owner, what it proposes
abbrev pub prop : List ℕ
prop = codes "prop"

-- the node got this phase's proposal
abbrev pub got : List ℕ
got = codes "got"

-- at an owner, how many nodes acknowledged
abbrev pub acks : List ℕ
acks = codes "acks"

-- what the node decided
abbrev pub done : List ℕ
done = codes "done"

-- fields and numbers of comprehensions
abbrev pub list : List ℕ
list = codes "list"

abbrev pub p : List ℕ
p = codes "p"

abbrev pub l : List ℕ
l = codes "l"

abbrev pub v : List ℕ
v = codes "v"

abbrev pub w : List ℕ
w = codes "w"

-- x := e;
abbrev pub assign : List ℕ → Tree → Assignment
assign target e = record { target = target; formula = e }

-- state x: ty = e
abbrev pub state : List ℕ → Ty → Tree → Variable
state name t e = record { name = name; kind = State t e }

abbrev pub field : List ℕ → Ty → Field
field name t = record { name = name; ty = t }

-- (phase - 1) mod n
abbrev pub owner : Tree
owner = TBinary Mod (TBinary Sub (TFixed Phase) (TNumber 1)) (TFixed Nodes)

-- has(x, y)
abbrev pub has : List ℕ → List ℕ → Tree
has s e = TBinary Has (TNamed s) (TNamed e)

-- x[y]
abbrev pub entry : List ℕ → List ℕ → Tree
entry r e = TBinary Entry (TNamed r) (TNamed e)

-- e > 0
abbrev pub is_some : Tree → Tree
is_some e = TBinary More e (TNumber 0)

-- size(e) = 0
abbrev pub is_empty : Tree → Tree
is_empty e = TBinary Equal (TUnary Size e) (TNumber 0)

-- w <> v
abbrev pub another : Tree
another = TBinary Differs (TNamed w) (TNamed v)

-- proper := proper union p;
abbrev pub more_proper : Assignment
more_proper = assign proper (TBinary Union (TNamed proper) (TNamed p))

-- {v : has(proper, v) and size({w : w <> v and locks[w] > 0}) = 0}
abbrev pub acceptable_values : Tree
acceptable_values =
    TSetOf v (TBinary And (has proper v)
    (is_empty (TSetOf w (TBinary And another (is_some (entry locks w))))))

-- [v : if has(list, v) then lists[v] + 1 else lists[v]]
abbrev pub counted_lists : Tree
counted_lists =
    TRowOf v (TIf (has list v) (TBinary Add (entry lists v) (TNumber 1)) (entry lists v))

-- if me = (phase - 1) mod n then single(least({v : lists[v] >= n - t})) else empty
abbrev pub proposal : Tree
proposal =
    TIf (TBinary Equal (TFixed Me) owner)
    (TUnary Single (TUnary Least
    (TSetOf v (TBinary AtLeast (entry lists v) (TBinary Sub (TFixed Nodes) (TFixed Faults))))))
    (TFixed Empty)

-- lists go to the owner, who proposes the least value that enough nodes accept
abbrev pub listing : BlockTree
listing = record {
  number = 1;
  fields = field list ty.Set ∷ field p ty.Set ∷ [];
  condition = TBinary Equal (TFixed Dest) owner;
  sent = acceptable_values ∷ TNamed proper ∷ [];
  on_message = assign lists counted_lists ∷ more_proper ∷ [];
  end = assign prop proposal ∷ assign lists (TFixed Zero) ∷ [];
}

-- [w : if has(v, w) then phase else locks[w]]
abbrev pub locked : Tree
locked = TRowOf w (TIf (has v w) (TFixed Phase) (entry locks w))

-- the proposal goes to all, who lock it
abbrev pub locking : BlockTree
locking = record {
  number = 2;
  fields = field v ty.Set ∷ field p ty.Set ∷ [];
  condition = is_some (TUnary Size (TNamed prop));
  sent = TNamed prop ∷ TNamed proper ∷ [];
  on_message = assign locks locked ∷ assign got (TFixed True) ∷ more_proper ∷ [];
  end = [];
}

-- if size(done) = 0 and acks >= t + 1 then prop else done
abbrev pub decided_set : Tree
decided_set =
    TIf (TBinary And (is_empty (TNamed done))
    (TBinary AtLeast (TNamed acks) (TBinary Add (TFixed Faults) (TNumber 1)))) (TNamed prop)
    (TNamed done)

-- acknowledgements go to the owner, who decides where there are enough
abbrev pub acknowledging : BlockTree
acknowledging = record {
  number = 3;
  fields = field p ty.Set ∷ [];
  condition = TBinary And (TNamed got) (TBinary Equal (TFixed Dest) owner);
  sent = TNamed proper ∷ [];
  on_message = assign acks (TBinary Add (TNamed acks) (TNumber 1)) ∷ more_proper ∷ [];
  end =
      assign done decided_set
      ∷ assign acks (TNumber 0) ∷ assign got (TFixed False) ∷ assign prop (TFixed Empty) ∷ [];
}

-- {w : w <> v and l[w] > 0 and l[w] >= locks[v]}
abbrev pub as_late : Tree
as_late =
    TSetOf w (TBinary And (TBinary And another (is_some (entry l w)))
    (TBinary AtLeast (entry l w) (entry locks v)))

-- [v : if size(..) > 0 then 0 else locks[v]], with that set
abbrev pub released : Tree
released = TRowOf v (TIf (is_some (TUnary Size as_late)) (TNumber 0) (entry locks v))

-- locks go to all, who release their own for another's that is as late
abbrev pub releasing : BlockTree
releasing = record {
  number = 4;
  fields = field l ty.Row ∷ field p ty.Set ∷ [];
  condition = is_some (TUnary Size (TSetOf v (is_some (entry locks v))));
  sent = TNamed locks ∷ TNamed proper ∷ [];
  on_message = assign locks released ∷ more_proper ∷ [];
  end = [];
}

abbrev pub node_variables : List Variable
node_variables =
    record { name = x; kind = Input }
    ∷ state proper ty.Set (TUnary Single (TNamed x))
    ∷ state locks ty.Row (TFixed Zero)
    ∷ state lists ty.Row (TFixed Zero)
    ∷ state prop ty.Set (TFixed Empty)
    ∷ state got ty.Bool (TFixed False)
    ∷ state acks ty.Num (TNumber 0)
    ∷ state done ty.Set (TFixed Empty)
    ∷ []

-- the program, over the values 0 to k-1
abbrev pub dls1 : ℕ → ProgramTree
dls1 k = record {
  values = k;
  period = 4;
  variables = node_variables;
  decides = done ∷ [];
  blocks = listing ∷ locking ∷ acknowledging ∷ releasing ∷ [];
}

-- the phase of a state's lock on a value, 0 for none
abbrev pub lock_in : List Value → ℕ → ℕ
lock_in vs u = slice_index (row (or_value (find_var node_variables vs locks) (Num 0))) u
