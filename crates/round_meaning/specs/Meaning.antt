-- The value of an expression.
use Rattle.std.specs.Prelude.{ℕ, true, false, List, [], ◌∷◌, map, Option, Some, None, if◌then◌else◌}
use Rattle.std.specs.Prelude.{replicate}
use Rattle.std.specs.List.{range_with_len}
use Rattle.std.specs.Str.{bytes_eq}
use Rattle.round_lang.specs.declared.block.Field.{Field}
use Rattle.round_lang.specs.declared.expr.Constant.{Constant}
use Rattle.round_lang.specs.declared.expr.Constant.TheVariants.{True, False, Empty, All, Zero, Me}
use Rattle.round_lang.specs.declared.expr.Constant.TheVariants.{Nodes, Faults, Round, Phase, Dest}
use Rattle.round_lang.specs.declared.expr.Constant.TheVariants.{From}
use Rattle.round_lang.specs.declared.program.Variable.{Variable}
use Rattle.round_lang.specs.declared.value.Value.{Value}
use Rattle.round_lang.specs.declared.value.Value.TheVariants.{Num, Flag, Row}
use Rattle.round_lang.specs.Sets.{set_of, everything}
use Rattle.round_lang.specs.Tree.{Tree, TNumber, TFixed, TNamed, TUnary, TBinary, TIf, TSetOf}
use Rattle.round_lang.specs.Tree.{TRowOf}
use Rattle.round_lang.specs.Values.{num, flag, of_set, unary, binary}

-- what an expression is computed with: K, what the node knows of itself and its round, and what
-- names stand for
pub record Env : Type 0 where
  pub values : ℕ
  pub me : ℕ
  pub nodes : ℕ
  pub faults : ℕ
  pub round : ℕ
  pub phase : ℕ
  pub dest : ℕ
  pub from : ℕ
  pub variables : List Variable
  pub vars : List Value
  pub fields : List Field
  pub message : List Value
  pub bound : List (List ℕ × ℕ)

-- the number of a comprehension variable, the innermost first
abbrev pub find_bound : List (List ℕ × ℕ) → List ℕ → Option ℕ
find_bound [] x = None
find_bound (b ∷ bs) x = if bytes_eq b.0 x then Some b.1 else find_bound bs x

-- the value beside the first field of that name
abbrev pub find_field : List Field → List Value → List ℕ → Option Value
find_field [] vs x = None
find_field (f ∷ fs) [] x = None
find_field (f ∷ fs) (v ∷ vs) x = if bytes_eq f.name x then Some v else find_field fs vs x

-- the value beside the first variable of that name
abbrev pub find_var : List Variable → List Value → List ℕ → Option Value
find_var [] vs x = None
find_var (d ∷ ds) [] x = None
find_var (d ∷ ds) (v ∷ vs) x = if bytes_eq d.name x then Some v else find_var ds vs x

abbrev pub or_value : Option Value → Value → Value
or_value None other = other
or_value (Some v) other = v

abbrev pub or_number : Option ℕ → Value → Value
or_number None other = other
or_number (Some n) other = Num n

-- what a name stands for: a comprehension variable, else a field, else a variable
abbrev pub look_up : Env → List ℕ → Value
look_up env x =
    or_number (find_bound env.bound x) (or_value (find_field env.fields env.message x)
    (or_value (find_var env.variables env.vars x) (Num 0)))

-- the same with one more comprehension variable
abbrev pub bind : List ℕ → Env → ℕ → Env
bind x env v = record env { bound = (x, v) ∷ env.bound }

-- what a constant stands for
abbrev pub constant : Constant → Env → Value
constant True env = Flag true
constant False env = Flag false
constant Empty env = of_set 0
constant All env = of_set (everything env.values)
constant Zero env = Row (replicate env.values 0)
constant Me env = Num env.me
constant Nodes env = Num env.nodes
constant Faults env = Num env.faults
constant Round env = Num env.round
constant Phase env = Num env.phase
constant Dest env = Num env.dest
constant From env = Num env.from

-- the value of an expression
abbrev pub value : Tree → Env → Value
value (TNumber n) env = Num n
value (TFixed c) env = constant c env
value (TNamed x) env = look_up env x
value (TUnary op a) env = unary env.values op (value a env)
value (TBinary op a b) env = binary env.values op (value a env) (value b env)
value (TIf c a b) env = if flag (value c env) then value a env else value b env
value (TSetOf x e) env = of_set (set_of env.values (λ v. flag (value e (bind x env v))))
value (TRowOf x e) env = Row (map (λ v. num (value e (bind x env v))) (range_with_len 0 env.values))
