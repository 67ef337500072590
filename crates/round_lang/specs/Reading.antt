-- Reading expressions from left to right with one token of lookahead. No reader has to believe this
-- file: laws tie it to the grammar.
use Rattle.std.specs.Prelude.{ℕ, zero, suc, ◌+◌, ◌-◌, ◌*◌, min, max, fold, Bool, true, false, ◌&&◌}
use Rattle.std.specs.Prelude.{List, [], ◌∷◌, length, Option, Some, None, option_and_then, nat_le}
use Rattle.std.specs.Prelude.{nat_lt, if◌then◌else◌}
use denote.Enum.Bare.{sameb}
use Rattle.round_lang.specs.declared.expr.Ty.{Ty}
use Rattle.round_lang.specs.declared.expr.UnaryOperator.{UnaryOperator}
use Rattle.round_lang.specs.declared.expr.UnaryOperator.TheVariants as unary
use Rattle.round_lang.specs.declared.expr.BinaryOperator.{BinaryOperator}
use Rattle.round_lang.specs.declared.expr.BinaryOperator.TheVariants as binary
use Rattle.round_lang.specs.declared.token.Mark.{Mark}
use Rattle.round_lang.specs.declared.token.Mark.TheVariants as m
use Rattle.round_lang.specs.contracts.parsing.level.Level.{the_type}
use Rattle.round_lang.specs.declared.parsing.level.Level.{Level}
use Rattle.round_lang.specs.declared.parsing.level.Level.TheVariants.{Whole, Disjunction}
use Rattle.round_lang.specs.declared.parsing.level.Level.TheVariants.{Conjunction, Negation}
use Rattle.round_lang.specs.declared.parsing.level.Level.TheVariants.{Comparison, Sum, Product}
use Rattle.round_lang.specs.declared.parsing.level.Level.TheVariants.{Postfix, Atom}
use Rattle.round_lang.specs.Lexemes.{Lexeme, name, number, mark, kind, fixed, call, infix_word}
use Rattle.round_lang.specs.Lexemes.{same_mark}
use Rattle.round_lang.specs.Limits.{max_name, max_number, max_nesting}
use Rattle.round_lang.specs.Tree.{Tree, TNumber, TFixed, TNamed, TUnary, TBinary, TIf, TSetOf}
use Rattle.round_lang.specs.Tree.{TRowOf}
use Rattle.round_lang.specs.Grammar.{tighter, level_of, value_of}

infixl 10 ◌>>=◌
abbrev pub ◌>>=◌ : {A B : Type 0} → Option A → (A → Option B) → Option B
o >>= f = option_and_then f o

-- what is read, and what follows
abbrev pub Part : Type 0 → Type 0
Part A = List Lexeme → Option (A × List Lexeme)

-- a tree, how deep it nests, and what follows
abbrev pub Found : Type 0
Found = Tree × ℕ × List Lexeme

abbrev pub Reader : Type 0
Reader = List Lexeme → Option Found

-- the rest after this mark
unfoldable pub after : Mark → List Lexeme → Option (List Lexeme)
after sign (mark k ∷ ws) = if same_mark k sign then Some ws else None
after sign _ = None

-- the rest after =
unfoldable pub after_equal : List Lexeme → Option (List Lexeme)
after_equal (infix_word binary.Equal ∷ ws) = Some ws
after_equal _ = None

unfoldable pub name_at : Part (List ℕ)
name_at (name x ∷ ws) = if nat_le (length x) max_name then Some (x, ws) else None
name_at _ = None

unfoldable pub type_at : Part Ty
type_at (kind ty ∷ ws) = Some (ty, ws)
type_at _ = None

-- what digits are worth, within these limits
unfoldable pub value_within : ℕ → ℕ → List ℕ → Option ℕ
value_within low high digits = if nat_le low (value_of digits) && nat_le (value_of digits) high
    then Some (value_of digits) else None

unfoldable pub number_at : ℕ → ℕ → Part ℕ
number_at low high (number digits ∷ ws) = value_within low high digits >>= λ v. Some (v, ws)
number_at low high _ = None

-- what digits are worth, each above the largest number counting as the next one
unfoldable pub capped_value : List ℕ → ℕ
capped_value digits = fold (λ n b. min (10 * n + (b - 48)) 4294967296) 0 digits

unfoldable pub begins_with : Mark → List Lexeme → Bool
begins_with sign (mark k ∷ ws) = same_mark k sign
begins_with sign _ = false

unfoldable pub begins_name : List Lexeme → Bool
begins_name (name x ∷ ws) = true
begins_name _ = false

unfoldable pub same_level : Level → Level → Bool
same_level = sameb the_type

abbrev pub operator_of : Level → BinaryOperator → List Lexeme → Option Level
    → Option (BinaryOperator × List Lexeme)
operator_of level op ws None = None
operator_of level op ws (Some l) = if same_level l level then Some (op, ws) else None

-- an operator of the level, and the rest after it
unfoldable pub operator_at : Level → List Lexeme → Option (BinaryOperator × List Lexeme)
operator_at level (infix_word op ∷ ws) = operator_of level op ws (level_of op)
operator_at level _ = None

-- goes on with the value of the option, or does something else
abbrev pub or_else : {A B : Type 0} → Option A → (A → B) → B → B
or_else None f b = b
or_else (Some a) f b = f a

-- inner reads what nests one less deep than the room
module _ (inner : Level → Reader) (room : ℕ) where
  -- the second operand, if there is an operator, and then next
  unfoldable pub operand : Level → (Tree → ℕ → Reader) → Tree → ℕ → List Lexeme
      → Option (BinaryOperator × List Lexeme) → Option Found
  operand level next a d ws None = Some (a, d, ws)
  operand level next a d ws (Some (op, xs)) =
      if nat_lt d room then (inner (tighter level) xs
      >>= λ b. next (TBinary op a b.0) (suc (max d b.1)) b.2) else None

  abbrev pub found : Tree → ℕ → Reader
  found a d ws = Some (a, d, ws)

  -- a chain of operators; the number bounds the turns
  unfoldable pub chain : ℕ → Level → Tree → ℕ → Reader
  chain zero level a d ws = None
  chain (suc n) level a d ws = operand level (chain n level) a d ws (operator_at level ws)

  unfoldable pub chained : Level → Reader → Reader
  chained level below ws = below ws >>= λ a. chain (suc room) level a.0 a.1 a.2

  unfoldable pub compared : Reader → Reader
  compared below ws =
      below ws >>= λ a. operand Comparison found a.0 a.1 a.2 (operator_at Comparison a.2)

  unfoldable pub negated : Reader → Reader
  negated below ws = or_else (after m.Not ws) (λ xs. inner Negation xs
      >>= λ a. Some (TUnary unary.Not a.0, suc a.1, a.2)) (below ws)

  -- an expression and the mark behind it
  unfoldable pub closed : Mark → Reader
  closed sign ws = do
    a ← inner Whole ws
    rest ← after sign a.2
    Some (a.0, a.1, rest)

  unfoldable pub indexed : Tree → ℕ → Reader
  indexed a d xs = if nat_lt d room then (closed m.CloseSquare xs
      >>= λ b. Some (TBinary binary.Entry a b.0, suc (max d b.1), b.2)) else None

  unfoldable pub postfixed : Reader → Reader
  postfixed below ws = below ws
      >>= λ a. or_else (after m.OpenSquare a.2) (λ xs. indexed a.0 a.1 xs) (Some (a.0, a.1, a.2))

  -- what nests needs room for its part
  abbrev pub roomy : Option Found → Option Found
  roomy o = if nat_lt 1 room then o else None

  unfoldable pub called : UnaryOperator → Reader
  called op ws = roomy (do
    xs ← after m.Open ws
    a ← closed m.Close xs
    Some (TUnary op a.0, suc a.1, a.2))

  unfoldable pub has : Reader
  has ws = roomy (do
    xs ← after m.Open ws
    a ← closed m.Comma xs
    b ← closed m.Close a.2
    Some (TBinary binary.Has a.0 b.0, suc (max a.1 b.1), b.2))

  unfoldable pub brackets : Reader
  brackets ws = do
    a ← closed m.Close ws
    Some (a.0, suc a.1, a.2)

  -- a comprehension behind its first bracket
  unfoldable pub comprehension : (List ℕ → Tree → Tree) → Mark → Reader
  comprehension made sign ws = roomy (do
    x ← name_at ws
    xs ← after m.Colon x.1
    a ← closed sign xs
    Some (made x.0 a.0, suc a.1, a.2))

  abbrev pub atom_by : Mark → Reader
  atom_by m.Has ws = has ws
  atom_by m.Open ws = brackets ws
  atom_by m.OpenCurly ws = comprehension TSetOf m.CloseCurly ws
  atom_by m.OpenSquare ws = comprehension TRowOf m.CloseSquare ws
  atom_by _ ws = None

  unfoldable pub atom : Reader
  atom [] = None
  atom (name x ∷ ws) = name_at (name x ∷ ws) >>= λ y. Some (TNamed y.0, 1, y.1)
  atom (number digits ∷ ws) =
      number_at 0 max_number (number digits ∷ ws) >>= λ v. Some (TNumber v.0, 1, v.1)
  atom (mark k ∷ ws) = atom_by k ws
  atom (kind ty ∷ ws) = None
  atom (fixed c ∷ ws) = Some (TFixed c, 1, ws)
  atom (call op ∷ ws) = called op ws
  atom (infix_word op ∷ ws) = None

  unfoldable pub choice : Reader
  choice xs = do
    a ← closed m.Then xs
    b ← closed m.Else a.2
    c ← inner Whole b.2
    Some (TIf a.0 b.0 c.0, suc (max a.1 (max b.1 c.1)), c.2)

  unfoldable pub chosen : Reader → Reader
  chosen below ws = or_else (after m.If ws) choice (below ws)

  -- each level, from the tightest
  abbrev pub postfixes : Reader
  postfixes = postfixed atom

  unfoldable pub products : Reader
  products = chained Product postfixes

  unfoldable pub sums : Reader
  sums = chained Sum products

  abbrev pub comparisons : Reader
  comparisons = compared sums

  unfoldable pub negations : Reader
  negations = negated comparisons

  unfoldable pub conjunctions : Reader
  conjunctions = chained Conjunction negations

  unfoldable pub disjunctions : Reader
  disjunctions = chained Disjunction conjunctions

  abbrev pub level_at : Level → Reader
  level_at Atom = atom
  level_at Postfix = postfixes
  level_at Product = products
  level_at Sum = sums
  level_at Comparison = comparisons
  level_at Negation = negations
  level_at Conjunction = conjunctions
  level_at Disjunction = disjunctions
  level_at Whole = chosen disjunctions

-- reads what stands at a level and nests at most as deep as the number
unfoldable pub parse : ℕ → Level → Reader
parse zero level ws = None
parse (suc n) level ws = level_at (parse n) (suc n) level ws

-- a whole expression
unfoldable pub formula : Part Tree
formula ws = parse max_nesting Whole ws >>= λ a. Some (a.0, a.2)
