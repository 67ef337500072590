-- The type of each expression, and the parts of a program that have a wrong one.
use Rattle.std.specs.Prelude.{ℕ, Bool, true, false, ◌||◌, not, List, [], ◌∷◌, Option, Some, None}
use Rattle.std.specs.Prelude.{if◌then◌else◌}
use Rattle.std.specs.List.{list_any}
use Rattle.std.specs.Str.{bytes_eq}
use Rattle.round_lang.specs.declared.expr.Constant.{Constant}
use Rattle.round_lang.specs.declared.expr.Constant.TheVariants.{True, False, Empty, All, Zero}
use Rattle.round_lang.specs.declared.expr.UnaryOperator.{UnaryOperator}
use Rattle.round_lang.specs.declared.expr.UnaryOperator.TheVariants.{Not, Single, Size, Least}
use Rattle.round_lang.specs.declared.expr.BinaryOperator.{BinaryOperator}
use Rattle.round_lang.specs.declared.expr.BinaryOperator.TheVariants.{Add, Sub, Div, Mod, Equal}
use Rattle.round_lang.specs.declared.expr.BinaryOperator.TheVariants.{Differs, Less, AtMost, More}
use Rattle.round_lang.specs.declared.expr.BinaryOperator.TheVariants.{AtLeast, And, Or, Union}
use Rattle.round_lang.specs.declared.expr.BinaryOperator.TheVariants.{Inter, Minus, Has, Entry}
use Rattle.round_lang.specs.declared.expr.Ty.{Ty}
use Rattle.round_lang.specs.declared.expr.Ty.TheVariants.{Num, Bool as Truth, Set, Row}
use Rattle.round_lang.specs.declared.block.Field.{Field}
use Rattle.round_lang.specs.declared.block.Assignment.{Assignment}
use Rattle.round_lang.specs.declared.program.Variable.{Variable}
use Rattle.round_lang.specs.declared.program.VariableKind.{VariableKind}
use Rattle.round_lang.specs.declared.program.VariableKind.TheVariants.{Input, State}
use Rattle.round_lang.specs.Tree.{Tree, TNumber, TFixed, TNamed, TUnary, TBinary, TIf, TSetOf}
use Rattle.round_lang.specs.Tree.{TRowOf}
use Rattle.round_lang.specs.Syntax.{BlockTree, ProgramTree}
use Rattle.round_check.specs.declared.types.Context.{Context as CodeContext}
use Rattle.round_check.specs.Names.{names_of, contains_name}

-- what an expression's names may stand for
pub record Context : Type 0 where
  pub variables : List Variable
  pub fields : List Field
  pub bound : List (List ℕ)

-- the context that the code holds by references
abbrev pub context_of : CodeContext → Context
context_of c =
    record { variables = c.variables.now; fields = c.fields.now; bound = names_of c.bound.now }

-- both are one type
abbrev pub same_type : Ty → Ty → Bool
same_type Num Num = true
same_type Truth Truth = true
same_type Set Set = true
same_type Row Row = true
same_type a b = false

-- `me n t round phase dest from` are nums
abbrev pub constant_type : Constant → Ty
constant_type True = Truth
constant_type False = Truth
constant_type Empty = Set
constant_type All = Set
constant_type Zero = Row
constant_type k = Num

-- the type of a variable; the input is a num
abbrev pub kind_type : VariableKind → Ty
kind_type Input = Num
kind_type (State ty start) = ty

-- the first, or the second where there is no first
abbrev pub or_else : {A : Type 0} → Option A → Option A → Option A
or_else None b = b
or_else (Some a) b = Some a

-- the type of the first field with the name
abbrev pub field_type : List Field → List ℕ → Option Ty
field_type [] x = None
field_type (f ∷ fs) x = if bytes_eq f.name x then Some f.ty else field_type fs x

-- the type of the first variable with the name
abbrev pub variable_type : List Variable → List ℕ → Option Ty
variable_type [] x = None
variable_type (v ∷ vs) x = if bytes_eq v.name x then Some (kind_type v.kind) else variable_type vs x

-- a comprehension variable, else a field, else a variable
abbrev pub name_type : Context → List ℕ → Option Ty
name_type c x =
    if contains_name c.bound x then Some Num
    else or_else (field_type c.fields x) (variable_type c.variables x)

-- the result if the part has the type that is wanted
abbrev pub wants : Option Ty → Ty → Option Ty → Option Ty
wants None t r = None
wants (Some a) t r = if same_type a t then r else None

-- the result if both parts are of one type
abbrev pub alike : Option Ty → Option Ty → Option Ty → Option Ty
alike None b r = None
alike (Some a) b r = wants b a r

-- the result type if the parts have the types s and t
abbrev pub both : Option Ty → Ty → Option Ty → Ty → Ty → Option Ty
both a s b t r = wants a s (wants b t (Some r))

-- what an operator wants of its part, and the type that it gives
abbrev pub unary_type : UnaryOperator → Option Ty → Option Ty
unary_type Not a = wants a Truth (Some Truth)
unary_type Single a = wants a Num (Some Set)
unary_type Size a = wants a Set (Some Num)
unary_type Least a = wants a Set (Some Num)

-- what an operator wants of its parts, and the type that it gives
abbrev pub binary_type : BinaryOperator → Option Ty → Option Ty → Option Ty
binary_type Add a b = both a Num b Num Num
binary_type Sub a b = both a Num b Num Num
binary_type Div a b = both a Num b Num Num
binary_type Mod a b = both a Num b Num Num
binary_type Equal a b = alike a b (Some Truth)
binary_type Differs a b = alike a b (Some Truth)
binary_type Less a b = both a Num b Num Truth
binary_type AtMost a b = both a Num b Num Truth
binary_type More a b = both a Num b Num Truth
binary_type AtLeast a b = both a Num b Num Truth
binary_type And a b = both a Truth b Truth Truth
binary_type Or a b = both a Truth b Truth Truth
binary_type Union a b = both a Set b Set Set
binary_type Inter a b = both a Set b Set Set
binary_type Minus a b = both a Set b Set Set
binary_type Has a b = both a Set b Num Truth
binary_type Entry a b = both a Row b Num Num

-- the context of a comprehension's body
abbrev pub under : List ℕ → Context → Context
under x c = record c { bound = x ∷ c.bound }

-- the type of an expression, none if a name is unknown or a part has another type than is wanted
abbrev pub type_of : Tree → Context → Option Ty
type_of (TNumber n) c = Some Num
type_of (TFixed k) c = Some (constant_type k)
type_of (TNamed x) c = name_type c x
type_of (TUnary op a) c = unary_type op (type_of a c)
type_of (TBinary op a b) c = binary_type op (type_of a c) (type_of b c)
type_of (TIf e a b) c = wants (type_of e c) Truth (alike (type_of a c) (type_of b c) (type_of a c))
type_of (TSetOf x e) c = wants (type_of e (under x c)) Truth (Some Set)
type_of (TRowOf x e) c = wants (type_of e (under x c)) Num (Some Row)

-- the type was found and is t
abbrev pub has_type : Option Ty → Ty → Bool
has_type None t = false
has_type (Some a) t = same_type a t

-- the context outside comprehensions, with the fields that may be read there
abbrev pub context_with : List Field → ProgramTree → Context
context_with fs p = record { variables = p.variables; fields = fs; bound = [] }

-- an initial value is of another type than its variable
abbrev pub wrong_start : Context → VariableKind → Bool
wrong_start c Input = false
wrong_start c (State ty start) = not (has_type (type_of start c) ty)

-- a sent expression is of another type than its field
abbrev pub wrong_sent : Context → List Field → List Tree → Bool
wrong_sent c [] es = false
wrong_sent c (f ∷ fs) [] = false
wrong_sent c (f ∷ fs) (e ∷ es) = not (has_type (type_of e c) f.ty) || wrong_sent c fs es

-- t is the type of the part
abbrev pub is_same_type : Option Ty → Option Ty → Bool
is_same_type None part = false
is_same_type (Some t) part = has_type part t

-- an assignment is of another type than its target
abbrev pub wrong_assignment : Context → Assignment → Bool
wrong_assignment c a = not (is_same_type (variable_type c.variables a.target) (type_of a.formula c))

-- the variable after `decide` is no set
abbrev pub wrong_decide : Context → List ℕ → Bool
wrong_decide c x = not (has_type (variable_type c.variables x) Set)

-- a condition, sent expression or assignment of a block is of a wrong type, if c has no fields
abbrev pub wrong_block : Context → BlockTree → Bool
wrong_block c b =
    not (has_type (type_of b.condition c) Truth)
    || wrong_sent c b.fields b.sent
    || list_any (wrong_assignment (record c { fields = b.fields })) b.on_message
    || list_any (wrong_assignment c) b.end

-- some initial value, block or variable after `decide` is of a wrong type
abbrev pub wrong_program : Context → ProgramTree → Bool
wrong_program c p =
    list_any (λ (v : Variable). wrong_start c v.kind) p.variables
    || list_any (wrong_block c) p.blocks
    || list_any (wrong_decide c) p.decides
