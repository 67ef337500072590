-- The grammar of expressions, as rules.
use Rattle.std.specs.Prelude.{◌≡◌, ℕ, suc, ◌+◌, ◌-◌, ◌*◌, ◌≤◌, List, ◌∷◌, length, fold, Option}
use Rattle.std.specs.Prelude.{Some, None}
use Rattle.round_lang.specs.declared.expr.Constant.{Constant}
use Rattle.round_lang.specs.declared.expr.UnaryOperator.{UnaryOperator}
use Rattle.round_lang.specs.declared.expr.UnaryOperator.TheVariants as unary
use Rattle.round_lang.specs.declared.expr.BinaryOperator.{BinaryOperator}
use Rattle.round_lang.specs.declared.expr.BinaryOperator.TheVariants as binary
use Rattle.round_lang.specs.declared.token.Mark.TheVariants as m
use Rattle.round_lang.specs.declared.parsing.level.Level.{Level}
use Rattle.round_lang.specs.declared.parsing.level.Level.TheVariants.{Whole, Disjunction}
use Rattle.round_lang.specs.declared.parsing.level.Level.TheVariants.{Conjunction, Negation}
use Rattle.round_lang.specs.declared.parsing.level.Level.TheVariants.{Comparison, Sum, Product}
use Rattle.round_lang.specs.declared.parsing.level.Level.TheVariants.{Postfix, Atom}
use Rattle.round_lang.specs.Lexemes.{Lexeme, name, number, mark, fixed, call, infix_word}
use Rattle.round_lang.specs.Limits.{max_name, max_number}
use Rattle.round_lang.specs.Tree.{Tree, TNumber, TFixed, TNamed, TUnary, TBinary, TIf, TSetOf}
use Rattle.round_lang.specs.Tree.{TRowOf}

-- what digits are worth
abbrev pub value_of : List ℕ → ℕ
value_of digits = fold (λ n b. 10 * n + (b - 48)) 0 digits

-- from the loosest level to the tightest
abbrev pub tighter : Level → Level
tighter Whole = Disjunction
tighter Disjunction = Conjunction
tighter Conjunction = Negation
tighter Negation = Comparison
tighter Comparison = Sum
tighter Sum = Product
tighter Product = Postfix
tighter Postfix = Atom
tighter Atom = Atom

-- the level of each operator between two operands
abbrev pub level_of : BinaryOperator → Option Level
level_of binary.Or = Some Disjunction
level_of binary.And = Some Conjunction
level_of binary.Equal = Some Comparison
level_of binary.Differs = Some Comparison
level_of binary.Less = Some Comparison
level_of binary.AtMost = Some Comparison
level_of binary.More = Some Comparison
level_of binary.AtLeast = Some Comparison
level_of binary.Add = Some Sum
level_of binary.Sub = Some Sum
level_of binary.Union = Some Sum
level_of binary.Minus = Some Sum
level_of binary.Div = Some Product
level_of binary.Mod = Some Product
level_of binary.Inter = Some Product
level_of binary.Has = None
level_of binary.Entry = None

-- the left operand of an operator: a chain groups from the left, and comparisons make no chain
abbrev pub left_operand : Level → Level
left_operand Comparison = Sum
left_operand level = level

-- Reads level n t ws rest: the words ws begin with the expression t, which stands at the level and
-- nests at most n deep, and then the words rest follow.
pub data Reads : Level → ℕ → Tree → List Lexeme → List Lexeme → Type 0 where
  -- what stands at a tighter level stands at a looser one
  looser : {level : Level} {n : ℕ} {t : Tree} {ws rest : List Lexeme}
      → Reads (tighter level) n t ws rest → Reads level n t ws rest
  -- if a then b else c
  choice : {n : ℕ} {a b c : Tree} {ws xs ys rest : List Lexeme}
      → Reads Whole n a ws (mark m.Then ∷ xs) → Reads Whole n b xs (mark m.Else ∷ ys)
      → Reads Whole n c ys rest → Reads Whole (suc n) (TIf a b c) (mark m.If ∷ ws) rest
  -- a op b
  operation : {level : Level} {op : BinaryOperator} {n : ℕ} {a b : Tree} {ws xs rest : List Lexeme}
      → level_of op ≡ Some level → Reads (left_operand level) n a ws (infix_word op ∷ xs)
      → Reads (tighter level) n b xs rest → Reads level (suc n) (TBinary op a b) ws rest
  -- not a
  negated : {n : ℕ} {a : Tree} {ws rest : List Lexeme} → Reads Negation n a ws rest
      → Reads Negation (suc n) (TUnary unary.Not a) (mark m.Not ∷ ws) rest
  -- a[b]
  indexed : {n : ℕ} {a b : Tree} {ws xs rest : List Lexeme}
      → Reads Atom n a ws (mark m.OpenSquare ∷ xs) → Reads Whole n b xs (mark m.CloseSquare ∷ rest)
      → Reads Postfix (suc n) (TBinary binary.Entry a b) ws rest
  numeral : {n v : ℕ} {digits : List ℕ} {rest : List Lexeme} → value_of digits ≡ v → v ≤ max_number
      → Reads Atom (suc n) (TNumber v) (number digits ∷ rest) rest
  constant : {n : ℕ} {c : Constant} {rest : List Lexeme}
      → Reads Atom (suc n) (TFixed c) (fixed c ∷ rest) rest
  variable : {n : ℕ} {x : List ℕ} {rest : List Lexeme} → length x ≤ max_name
      → Reads Atom (suc n) (TNamed x) (name x ∷ rest) rest
  -- single(a), size(a), least(a)
  called : {n : ℕ} {op : UnaryOperator} {a : Tree} {ws rest : List Lexeme}
      → Reads Whole n a ws (mark m.Close ∷ rest)
      → Reads Atom (suc n) (TUnary op a) (call op ∷ mark m.Open ∷ ws) rest
  -- has(a, b)
  membership : {n : ℕ} {a b : Tree} {ws xs rest : List Lexeme}
      → Reads Whole n a ws (mark m.Comma ∷ xs) → Reads Whole n b xs (mark m.Close ∷ rest)
      → Reads Atom (suc n) (TBinary binary.Has a b) (mark m.Has ∷ mark m.Open ∷ ws) rest
  -- (a), which leaves no trace but nests
  brackets : {n : ℕ} {a : Tree} {ws rest : List Lexeme} → Reads Whole n a ws (mark m.Close ∷ rest)
      → Reads Atom (suc n) a (mark m.Open ∷ ws) rest
  -- {x : a}
  set_of : {n : ℕ} {x : List ℕ} {a : Tree} {ws rest : List Lexeme} → length x ≤ max_name
      → Reads Whole n a ws (mark m.CloseCurly ∷ rest)
      → Reads Atom (suc n) (TSetOf x a) (mark m.OpenCurly ∷ name x ∷ mark m.Colon ∷ ws) rest
  -- [x : a]
  row_of : {n : ℕ} {x : List ℕ} {a : Tree} {ws rest : List Lexeme} → length x ≤ max_name
      → Reads Whole n a ws (mark m.CloseSquare ∷ rest)
      → Reads Atom (suc n) (TRowOf x a) (mark m.OpenSquare ∷ name x ∷ mark m.Colon ∷ ws) rest
