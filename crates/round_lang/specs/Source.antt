-- The grammar of programs, as rules, and which program a text is.
use Rattle.std.specs.Prelude.{◌≡◌, ℕ, ◌≤◌, List, [], ◌∷◌, length}
use Rattle.round_lang.specs.declared.expr.Ty.{Ty}
use Rattle.round_lang.specs.declared.expr.BinaryOperator.TheVariants as binary
use Rattle.round_lang.specs.declared.token.Mark.{Mark}
use Rattle.round_lang.specs.declared.token.Mark.TheVariants as m
use Rattle.round_lang.specs.declared.block.Field.{Field}
use Rattle.round_lang.specs.declared.block.Assignment.{Assignment}
use Rattle.round_lang.specs.declared.program.Variable.{Variable}
use Rattle.round_lang.specs.declared.program.VariableKind.TheVariants.{Input, State}
use Rattle.round_lang.specs.declared.parsing.level.Level.TheVariants.{Whole}
use Rattle.round_lang.specs.declared.parsing.part.Declaration.{Declaration}
use Rattle.round_lang.specs.declared.parsing.part.Declaration.TheVariants as d
use Rattle.round_lang.specs.Lexemes.{Lexeme, name, number, mark, kind, infix_word}
use Rattle.round_lang.specs.Limits.{max_values, max_period, max_variables, max_fields, max_nesting}
use Rattle.round_lang.specs.Limits.{max_name, max_number}
use Rattle.round_lang.specs.Tokens.{Tokens}
use Rattle.round_lang.specs.Tree.{Tree}
use Rattle.round_lang.specs.Syntax.{BlockTree, ProgramTree}
use Rattle.round_lang.specs.Grammar.{Reads, value_of}

-- { item }: such items, one after another
pub data Many {A : Type 0} (Item : A → List Lexeme → List Lexeme → Type 0)
    : List A → List Lexeme → List Lexeme → Type 0 where
  none : {ws : List Lexeme} → Many Item [] ws ws
  more : {a : A} {others : List A} {ws xs rest : List Lexeme} → Item a ws xs
      → Many Item others xs rest → Many Item (a ∷ others) ws rest

-- an item behind a mark
pub data After {A : Type 0} (sign : Mark) (Item : A → List Lexeme → List Lexeme → Type 0)
    : A → List Lexeme → List Lexeme → Type 0 where
  behind : {a : A} {ws rest : List Lexeme} → Item a ws rest
      → After sign Item a (mark sign ∷ ws) rest

-- [ item { "," item } ]: such items with commas between them
pub data Listed {A : Type 0} (Item : A → List Lexeme → List Lexeme → Type 0)
    : List A → List Lexeme → List Lexeme → Type 0 where
  empty : {ws : List Lexeme} → Listed Item [] ws ws
  some : {a : A} {others : List A} {ws xs rest : List Lexeme} → Item a ws xs
      → Many (After m.Comma Item) others xs rest → Listed Item (a ∷ others) ws rest

-- a whole expression
abbrev pub IsExpr : Tree → List Lexeme → List Lexeme → Type 0
IsExpr t ws rest = Reads Whole max_nesting t ws rest

-- state x : ty = t, input x, decide x
pub data IsDecl : Declaration → List Lexeme → List Lexeme → Type 0 where
  state : {x : List ℕ} {ty : Ty} {t : Tree} {ws rest : List Lexeme} → length x ≤ max_name
      → IsExpr t ws rest → IsDecl (d.Variable (record { name = x; kind = State ty t }))
      (mark m.State ∷ name x ∷ mark m.Colon ∷ kind ty ∷ infix_word binary.Equal ∷ ws) rest
  input : {x : List ℕ} {rest : List Lexeme} → length x ≤ max_name
      → IsDecl (d.Variable (record { name = x; kind = Input })) (mark m.Input ∷ name x ∷ rest) rest
  decide : {x : List ℕ} {rest : List Lexeme} → length x ≤ max_name
      → IsDecl (d.Decide x) (mark m.Decide ∷ name x ∷ rest) rest

-- x : ty
pub data IsField : Field → List Lexeme → List Lexeme → Type 0 where
  field : {x : List ℕ} {ty : Ty} {rest : List Lexeme} → length x ≤ max_name
      → IsField (record { name = x; ty = ty }) (name x ∷ mark m.Colon ∷ kind ty ∷ rest) rest

-- x := t;
pub data IsAssign : Assignment → List Lexeme → List Lexeme → Type 0 where
  assign : {x : List ℕ} {t : Tree} {ws rest : List Lexeme} → length x ≤ max_name
      → IsExpr t ws (mark m.Semicolon ∷ rest)
      → IsAssign (record { target = x; formula = t }) (name x ∷ mark m.Assign ∷ ws) rest

-- at n : message (fields) send when t : (ts) on message : .. end : ..
pub data IsBlock : BlockTree → List Lexeme → List Lexeme → Type 0 where
  block : {n : ℕ} {digits : List ℕ} {fs : List Field} {t : Tree} {ts : List Tree}
      {ons ends : List Assignment} {ws xs ys zs us rest : List Lexeme}
      → value_of digits ≡ n → n ≤ max_number
      → Listed IsField fs ws (mark m.Close ∷ mark m.Send ∷ mark m.When ∷ xs)
      → length fs ≤ max_fields → IsExpr t xs (mark m.Colon ∷ mark m.Open ∷ ys)
      → Listed IsExpr ts ys (mark m.Close ∷ mark m.On ∷ mark m.Message ∷ mark m.Colon ∷ zs)
      → Many IsAssign ons zs (mark m.End ∷ mark m.Colon ∷ us)
      → Many IsAssign ends us rest
      → IsBlock
      (record { number = n; fields = fs; condition = t; sent = ts; on_message = ons; end = ends })
      (mark m.At ∷ number digits ∷ mark m.Colon ∷ mark m.Message ∷ mark m.Open ∷ ws) rest

-- the state variables and the input, in order
abbrev pub variables_of : List Declaration → List Variable
variables_of [] = []
variables_of (d.Variable v ∷ ds) = v ∷ variables_of ds
variables_of (d.Decide x ∷ ds) = variables_of ds

-- the decided names, in order
abbrev pub decides_of : List Declaration → List (List ℕ)
decides_of [] = []
decides_of (d.Variable v ∷ ds) = decides_of ds
decides_of (d.Decide x ∷ ds) = x ∷ decides_of ds

-- values k period p { decl } { block }
pub data IsProgram : ProgramTree → List Lexeme → Type 0 where
  program : {k p : ℕ} {digits digits2 : List ℕ} {ds : List Declaration} {bs : List BlockTree}
      {ws xs : List Lexeme} → value_of digits ≡ k → 1 ≤ k → k ≤ max_values
      → value_of digits2 ≡ p → 1 ≤ p → p ≤ max_period
      → Many IsDecl ds ws xs → length (variables_of ds) ≤ max_variables
      → Many IsBlock bs xs []
      → IsProgram (record {
        values = k;
        period = p;
        variables = variables_of ds;
        decides = decides_of ds;
        blocks = bs;
      }) (mark m.Values ∷ number digits ∷ mark m.Period ∷ number digits2 ∷ ws)

-- the text is this program: its tokens are, by longest match
pub record IsSource (text : List ℕ) (p : ProgramTree) : Type 0 where
  pub words : List Lexeme
  pub tokens : Tokens text words
  pub program : IsProgram p words

-- no text is two programs
abbrev pub TextsAreOneProgram : Type 0
TextsAreOneProgram = (text : List ℕ) (p q : ProgramTree) → IsSource text p → IsSource text q → p ≡ q

-- the text is this expression: its tokens are, by longest match
pub record IsFormula (text : List ℕ) (t : Tree) : Type 0 where
  pub words : List Lexeme
  pub tokens : Tokens text words
  pub formula : IsExpr t words []

-- no text is two expressions
abbrev pub TextsAreOneFormula : Type 0
TextsAreOneFormula = (text : List ℕ) (t u : Tree) → IsFormula text t → IsFormula text u → t ≡ u
