-- Values of their types: what the types of a checked program promise.
use Rattle.std.specs.Prelude.{◌≡◌, ℕ, ◌^◌, ◌<◌, ◌≤◌, List, [], ◌∷◌, All, IfSome, length, map}
use Rattle.std.specs.Prelude.{Option, Some, None, ⊤}
use Rattle.round_check.specs.Types.{Context, field_type, kind_type, type_of, variable_type}
use Rattle.round_lang.specs.declared.block.Field.{Field}
use Rattle.round_lang.specs.declared.expr.Ty.{Ty}
use Rattle.round_lang.specs.declared.expr.Ty.TheVariants as ty
use Rattle.round_lang.specs.declared.program.Variable.{Variable}
use Rattle.round_lang.specs.declared.value.Value.{Value}
use Rattle.round_lang.specs.declared.value.Value.TheVariants.{Num, Flag, Set, Row}
use Rattle.round_lang.specs.Syntax.{BlockTree, ProgramTree}
use Rattle.round_lang.specs.Tree.{Tree}
use Rattle.round_meaning.specs.declared.received.Received.{Received}
use Rattle.round_meaning.specs.Meaning.{Env, find_field, find_var, value}
use Rattle.round_meaning.specs.Rounds.{end, send}
use Rattle.round_meaning.specs.Turn.{block_at, initial}

-- a value of a type, over the values below k: a set has members below k alone, a row a number for
-- each
abbrev pub HasType : ℕ → Ty → Value → Type 0
HasType k ty.Num (Num n) = ⊤
HasType k ty.Bool (Flag b) = ⊤
HasType k ty.Set (Set s) = s.bits < 2 ^ k
HasType k ty.Row (Row r) = length r ≡ k
HasType k t v = ⊥

-- a state: a value for each variable, of its type
abbrev pub IsState : ℕ → List Variable → List Value → Type 0
IsState k [] [] = ⊤
IsState k [] (v ∷ vs) = ⊥
IsState k (d ∷ ds) [] = ⊥
IsState k (d ∷ ds) (v ∷ vs) = HasType k (kind_type d.kind) v × IsState k ds vs

-- a message: a value for each field, of its type
abbrev pub IsMessage : ℕ → List Field → List Value → Type 0
IsMessage k [] [] = ⊤
IsMessage k [] (v ∷ vs) = ⊥
IsMessage k (f ∷ fs) [] = ⊥
IsMessage k (f ∷ fs) (v ∷ vs) = HasType k f.ty v × IsMessage k fs vs

-- a name is nothing on both sides, or stands for a value of its type
abbrev pub Suits : ℕ → Option Ty → Option Value → Type 0
Suits k None None = ⊤
Suits k None (Some v) = ⊥
Suits k (Some t) None = ⊥
Suits k (Some t) (Some v) = HasType k t v

-- the environment has what the context says
pub record Fits (c : Context) (env : Env) : Type 0 where
  pub values : env.values ≤ 64
  pub bound : map (λ (b : List ℕ × ℕ). b.0) env.bound ≡ c.bound
  pub fields : (x : List ℕ)
      → Suits env.values (field_type c.fields x) (find_field env.fields env.message x)
  pub variables : (x : List ℕ)
      → Suits env.values (variable_type c.variables x) (find_var env.variables env.vars x)

-- an expression of a type has a value of that type, in every environment that fits
abbrev pub TypedValuesFit : Type 0
TypedValuesFit =
    (e : Tree) (c : Context) (env : Env) (t : Ty) → Fits c env → type_of e c ≡ Some t
    → HasType env.values t (value e env)

-- the fields of a round's message, none if there is no block
abbrev pub fields_in : Option BlockTree → List Field
fields_in None = []
fields_in (Some b) = b.fields

abbrev pub fields_at : ProgramTree → ℕ → List Field
fields_at p r = fields_in (block_at p r)

-- a state of the program
abbrev pub IsStateOf : ProgramTree → List Value → Type 0
IsStateOf p vs = IsState p.values p.variables vs

-- a message of the program's block of a round
abbrev pub IsMessageOf : ProgramTree → ℕ → List Value → Type 0
IsMessageOf p r m = IsMessage p.values (fields_at p r) m

-- an inbox of such messages
abbrev pub IsInboxOf : ProgramTree → ℕ → List Received → Type 0
IsInboxOf p r ms = All (λ (m : Received). IsMessageOf p r m.message) ms

-- a node begins with a state of the program, whatever the setup is
abbrev pub StartsAreStates : ProgramTree → Type 0
StartsAreStates p = (n t x i : ℕ) → IsStateOf p (initial p n t x i)

-- what a node sends in such a state is a message of the round's block
abbrev pub SendsAreMessages : ProgramTree → Type 0
SendsAreMessages p =
    (n t r : ℕ) (vs : List Value) (j i : ℕ) → IsStateOf p vs
    → IfSome (send p n t r vs j i) (IsMessageOf p r)

-- and a round ends with such a state, where it began with one and the inbox has such messages
abbrev pub EndsAreStates : ProgramTree → Type 0
EndsAreStates p =
    (n t r i : ℕ) (ms : List Received) (vs : List Value) → IsStateOf p vs → IsInboxOf p r ms
    → IsStateOf p (end p n t r i ms vs)
