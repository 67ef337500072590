-- Reading the parts of a program with one token of lookahead. No reader has to believe this file:
-- laws tie it to the grammar.
use Rattle.std.specs.Prelude.{ℕ, zero, suc, ◌+◌, Bool, true, false, List, [], ◌∷◌, length, Option}
use Rattle.std.specs.Prelude.{Some, None, nat_lt, if◌then◌else◌}
use Rattle.round_lang.specs.declared.token.Mark.TheVariants as m
use Rattle.round_lang.specs.declared.block.Field.{Field}
use Rattle.round_lang.specs.declared.block.Assignment.{Assignment}
use Rattle.round_lang.specs.declared.program.Variable.{Variable}
use Rattle.round_lang.specs.declared.program.VariableKind.TheVariants.{Input, State}
use Rattle.round_lang.specs.declared.parsing.part.Declaration.{Declaration}
use Rattle.round_lang.specs.declared.parsing.part.Declaration.TheVariants as d
use Rattle.round_lang.specs.Lexemes.{Lexeme, mark}
use Rattle.round_lang.specs.Limits.{max_values, max_period, max_variables, max_fields, max_number}
use Rattle.round_lang.specs.Tree.{Tree}
use Rattle.round_lang.specs.Syntax.{BlockTree, ProgramTree}
use Rattle.round_lang.specs.Source.{variables_of, decides_of}
use Rattle.round_lang.specs.Reading.{◌>>=◌, Part, after, after_equal, name_at, type_at, number_at}
use Rattle.round_lang.specs.Reading.{begins_with, begins_name, formula}

-- the name of something of which there are at most so many, with how many there are
unfoldable pub counted_name : ℕ → ℕ → Part (List ℕ)
counted_name count most ws = name_at ws >>= λ x. if nat_lt count most then Some x else None

-- Items one after another, while one begins: an item is told the weight of those before it. The
-- first number bounds the turns.
module _ {A : Type 0} (begins : List Lexeme → Bool) (item : ℕ → Part A) (weight : A → ℕ) where
  unfoldable pub many : ℕ → ℕ → Part (List A)
  many zero count ws = None
  many (suc n) count ws =
      if begins ws then (item count ws >>= λ a. many n (weight a.0 + count) a.1
      >>= λ r. Some (a.0 ∷ r.0, r.1)) else Some ([], ws)

  -- the items of the words, from the first
  abbrev pub items : ℕ → Part (List A)
  items count ws = many (suc (length ws)) count ws

-- items with commas between them, up to a )
module _ {A : Type 0} (item : ℕ → Part A) (weight : A → ℕ) where
  abbrev pub behind_comma : ℕ → Part A
  behind_comma count ws = after m.Comma ws >>= item count

  abbrev pub others : ℕ → Part (List A)
  others count ws = items (begins_with m.Comma) behind_comma weight count ws

  unfoldable pub listed : Part (List A)
  listed ws =
      if begins_with m.Close ws then Some ([], ws)
      else (item 0 ws >>= λ a. others (weight a.0 + 0) a.1 >>= λ r. Some (a.0 ∷ r.0, r.1))

-- ---- declarations

unfoldable pub state : ℕ → Part Declaration
state count ws = do
  x ← counted_name count max_variables ws
  xs ← after m.Colon x.1
  ty ← type_at xs
  ys ← after_equal ty.1
  t ← formula ys
  Some (d.Variable (record { name = x.0; kind = State ty.0 t.0 }), t.1)

unfoldable pub input : ℕ → Part Declaration
input count ws = do
  x ← counted_name count max_variables ws
  Some (d.Variable (record { name = x.0; kind = Input }), x.1)

unfoldable pub decide : Part Declaration
decide ws = do
  x ← name_at ws
  Some (d.Decide x.0, x.1)

unfoldable pub begins_declaration : List Lexeme → Bool
begins_declaration (mark m.State ∷ ws) = true
begins_declaration (mark m.Input ∷ ws) = true
begins_declaration (mark m.Decide ∷ ws) = true
begins_declaration _ = false

unfoldable pub declaration : ℕ → Part Declaration
declaration count (mark m.State ∷ ws) = state count ws
declaration count (mark m.Input ∷ ws) = input count ws
declaration count (mark m.Decide ∷ ws) = decide ws
declaration count _ = None

-- how many variables it declares
abbrev pub variable_count : Declaration → ℕ
variable_count (d.Variable v) = 1
variable_count (d.Decide x) = 0

unfoldable pub declarations : Part (List Declaration)
declarations ws = items begins_declaration declaration variable_count 0 ws

-- what is declared: the variables, the decided names, and what follows
unfoldable pub declared : List Lexeme → Option (List Variable × List (List ℕ) × List Lexeme)
declared ws = declarations ws >>= λ ds. Some (variables_of ds.0, decides_of ds.0, ds.1)

-- ---- blocks

unfoldable pub assignment : Part Assignment
assignment ws = do
  x ← name_at ws
  xs ← after m.Assign x.1
  t ← formula xs
  rest ← after m.Semicolon t.1
  Some (record { target = x.0; formula = t.0 }, rest)

abbrev pub any_assignment : ℕ → Part Assignment
any_assignment count ws = assignment ws

unfoldable pub assignments : Part (List Assignment)
assignments ws = items begins_name any_assignment (λ a. 0) 0 ws

unfoldable pub field : ℕ → Part Field
field count ws = do
  x ← counted_name count max_fields ws
  xs ← after m.Colon x.1
  ty ← type_at xs
  Some (record { name = x.0; ty = ty.0 }, ty.1)

unfoldable pub fields : Part (List Field)
fields ws = listed field (λ f. 1) ws

abbrev pub any_formula : ℕ → Part Tree
any_formula count ws = formula ws

unfoldable pub sent : Part (List Tree)
sent ws = listed any_formula (λ t. 0) ws

unfoldable pub head : List Lexeme → Option (ℕ × List Field × List Lexeme)
head ws = do
  n ← number_at 0 max_number ws
  xs ← after m.Colon n.1
  ys ← after m.Message xs
  zs ← after m.Open ys
  fs ← fields zs
  rest ← after m.Close fs.1
  Some (n.0, fs.0, rest)

unfoldable pub sending : List Lexeme → Option (Tree × List Tree × List Lexeme)
sending ws = do
  xs ← after m.Send ws
  ys ← after m.When xs
  t ← formula ys
  zs ← after m.Colon t.1
  us ← after m.Open zs
  ts ← sent us
  rest ← after m.Close ts.1
  Some (t.0, ts.0, rest)

unfoldable pub on_message : Part (List Assignment)
on_message ws = do
  xs ← after m.On ws
  ys ← after m.Message xs
  zs ← after m.Colon ys
  assignments zs

unfoldable pub ending : Part (List Assignment)
ending ws = do
  xs ← after m.End ws
  ys ← after m.Colon xs
  assignments ys

-- a block behind its first word
unfoldable pub block : Part BlockTree
block ws = do
  h ← head ws
  s ← sending h.2
  ons ← on_message s.2
  ends ← ending ons.1
  Some (
    record {
      number = h.0;
      fields = h.1;
      condition = s.0;
      sent = s.1;
      on_message = ons.0;
      end = ends.0;
    },
    ends.1,
  )

abbrev pub any_block : ℕ → Part BlockTree
any_block count ws = after m.At ws >>= block

unfoldable pub blocks : Part (List BlockTree)
blocks ws = items (begins_with m.At) any_block (λ b. 0) 0 ws

-- ---- programs

-- what was read, if no words are left
abbrev pub all_read : {A : Type 0} → A → List Lexeme → Option A
all_read a [] = Some a
all_read a (w ∷ ws) = None

unfoldable pub program : List Lexeme → Option ProgramTree
program ws = do
  xs ← after m.Values ws
  k ← number_at 1 max_values xs
  ys ← after m.Period k.1
  p ← number_at 1 max_period ys
  ds ← declared p.1
  bs ← blocks ds.2
  all_read
      (record { values = k.0; period = p.0; variables = ds.0; decides = ds.1; blocks = bs.0 }) bs.1

-- ---- expressions that stand alone

unfoldable pub lone_formula : List Lexeme → Option Tree
lone_formula ws = formula ws >>= λ t. all_read t.0 t.1
