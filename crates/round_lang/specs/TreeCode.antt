-- The code of a tree, by which a proof tells trees apart: its words in postfix order.
use Rattle.std.specs.Prelude.{◌≡◌, ℕ, List, [], ◌∷◌, refl}
use Rattle.std.proofs.Common.{◌∙◌, ap}
use Rattle.round_lang.specs.declared.expr.Constant.{Constant}
use Rattle.round_lang.specs.declared.expr.UnaryOperator.{UnaryOperator}
use Rattle.round_lang.specs.declared.expr.BinaryOperator.{BinaryOperator}
use Rattle.round_lang.specs.Tree.{Tree, TNumber, TFixed, TNamed, TUnary, TBinary, TIf, TSetOf}
use Rattle.round_lang.specs.Tree.{TRowOf}

pub data Word : Type 0 where
  WNumber : (n : ℕ) → Word
  WFixed : (c : Constant) → Word
  WNamed : (x : List ℕ) → Word
  WUnary : (op : UnaryOperator) → Word
  WBinary : (op : BinaryOperator) → Word
  WIf : Word
  WSetOf : (x : List ℕ) → Word
  WRowOf : (x : List ℕ) → Word

abbrev pub words_then : Tree → List Word → List Word
words_then (TNumber n) rest = WNumber n ∷ rest
words_then (TFixed c) rest = WFixed c ∷ rest
words_then (TNamed x) rest = WNamed x ∷ rest
words_then (TUnary op a) rest = words_then a (WUnary op ∷ rest)
words_then (TBinary op a b) rest = words_then a (words_then b (WBinary op ∷ rest))
words_then (TIf c a b) rest = words_then c (words_then a (words_then b (WIf ∷ rest)))
words_then (TSetOf x e) rest = words_then e (WSetOf x ∷ rest)
words_then (TRowOf x e) rest = words_then e (WRowOf x ∷ rest)

abbrev pub on_one : List Tree → (Tree → Tree) → List Tree
on_one [] f = []
on_one (a ∷ st) f = f a ∷ st

abbrev pub on_two : List Tree → (Tree → Tree → Tree) → List Tree
on_two [] f = []
on_two (b ∷ []) f = []
on_two (b ∷ a ∷ st) f = f a b ∷ st

abbrev pub on_three : List Tree → (Tree → Tree → Tree → Tree) → List Tree
on_three [] f = []
on_three (b ∷ []) f = []
on_three (b ∷ a ∷ []) f = []
on_three (b ∷ a ∷ c ∷ st) f = f c a b ∷ st

abbrev pub built : List Word → List Tree → List Tree
built [] st = st
built (WNumber n ∷ ws) st = built ws (TNumber n ∷ st)
built (WFixed c ∷ ws) st = built ws (TFixed c ∷ st)
built (WNamed x ∷ ws) st = built ws (TNamed x ∷ st)
built (WUnary op ∷ ws) st = built ws (on_one st (TUnary op))
built (WBinary op ∷ ws) st = built ws (on_two st (TBinary op))
built (WIf ∷ ws) st = built ws (on_three st TIf)
built (WSetOf x ∷ ws) st = built ws (on_one st (TSetOf x))
built (WRowOf x ∷ ws) st = built ws (on_one st (TRowOf x))

abbrev pub top : List Tree → Tree
top [] = TNumber 0
top (t ∷ st) = t

pub built_words : (t : Tree) (rest : List Word) (st : List Tree)
    → built (words_then t rest) st ≡ built rest (t ∷ st)
built_words (TNumber n) rest st = refl
built_words (TFixed c) rest st = refl
built_words (TNamed x) rest st = refl
built_words (TUnary op a) rest st = built_words a (WUnary op ∷ rest) st
built_words (TBinary op a b) rest st =
    built_words a (words_then b (WBinary op ∷ rest)) st ∙ built_words b (WBinary op ∷ rest) (a ∷ st)
built_words (TIf c a b) rest st =
    built_words c (words_then a (words_then b (WIf ∷ rest))) st
    ∙ built_words a (words_then b (WIf ∷ rest)) (c ∷ st)
    ∙ built_words b (WIf ∷ rest) (a ∷ c ∷ st)
built_words (TSetOf x e) rest st = built_words e (WSetOf x ∷ rest) st
built_words (TRowOf x e) rest st = built_words e (WRowOf x ∷ rest) st

abbrev pub words : Tree → List Word
words t = words_then t []

abbrev pub tree_from : List Word → Tree
tree_from ws = top (built ws [])

pub tree_back : (t : Tree) → tree_from (words t) ≡ t
tree_back t = ap top (built_words t [] [])
