-- The tree that an expression is, without the places of its parts in memory.
use Rattle.std.specs.Prelude.{ℕ, suc, ◌+◌, max, List}
use Rattle.round_lang.specs.declared.expr.Constant.{Constant}
use Rattle.round_lang.specs.declared.expr.UnaryOperator.{UnaryOperator}
use Rattle.round_lang.specs.declared.expr.BinaryOperator.{BinaryOperator}
use Rattle.round_lang.specs.declared.expr.Expr.{Expr}
use Rattle.round_lang.specs.declared.expr.Expr.TheVariants.{Number, Fixed, Named, Unary', Binary'}
use Rattle.round_lang.specs.declared.expr.Expr.TheVariants.{If', SetOf', RowOf'}

-- an expression as pure data: a number, a constant, a name, an operator with its parts, `if`, a
-- set {x : e}, a row [x : e]
pub data Tree : Type 0 where
  TNumber : (n : ℕ) → Tree
  TFixed : (c : Constant) → Tree
  TNamed : (x : List ℕ) → Tree
  TUnary : (op : UnaryOperator) (a : Tree) → Tree
  TBinary : (op : BinaryOperator) (a b : Tree) → Tree
  TIf : (c a b : Tree) → Tree
  TSetOf : (x : List ℕ) (e : Tree) → Tree
  TRowOf : (x : List ℕ) (e : Tree) → Tree

-- the tree of an expression in memory
abbrev pub tree_of : Expr → Tree
tree_of (Number n) = TNumber n
tree_of (Fixed c) = TFixed c
tree_of (Named x) = TNamed x
tree_of (Unary' op p a) = TUnary op (tree_of a)
tree_of (Binary' op p a q b) = TBinary op (tree_of a) (tree_of b)
tree_of (If' p c q a r b) = TIf (tree_of c) (tree_of a) (tree_of b)
tree_of (SetOf' x p e) = TSetOf x (tree_of e)
tree_of (RowOf' x p e) = TRowOf x (tree_of e)

-- how deep a tree nests: what has no parts nests 1 deep
abbrev pub nesting : Tree → ℕ
nesting (TNumber n) = 1
nesting (TFixed c) = 1
nesting (TNamed x) = 1
nesting (TUnary op a) = suc (nesting a)
nesting (TBinary op a b) = suc (max (nesting a) (nesting b))
nesting (TIf c a b) = suc (max (nesting c) (max (nesting a) (nesting b)))
nesting (TSetOf x e) = suc (nesting e)
nesting (TRowOf x e) = suc (nesting e)

-- how many words a text has at least that spells the tree: those that stand for its parts, without
-- brackets, commas and the like
abbrev pub least_words : Tree → ℕ
least_words (TNumber n) = 1
least_words (TFixed c) = 1
least_words (TNamed x) = 1
least_words (TUnary op a) = suc (least_words a)
least_words (TBinary op a b) = suc (least_words a + least_words b)
least_words (TIf c a b) = 3 + (least_words c + (least_words a + least_words b))
least_words (TSetOf x e) = 4 + least_words e
least_words (TRowOf x e) = 4 + least_words e
