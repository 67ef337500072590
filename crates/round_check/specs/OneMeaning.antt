-- Each name in a program is the name of one thing.
use Rattle.std.specs.Prelude.{◌≡◌, ◌++◌, ◌∷◌, ℕ, List, All, length, filter, map, ⊤}
use Rattle.std.specs.Str.{bytes_eq}
use Rattle.round_lang.specs.declared.block.Assignment.{Assignment}
use Rattle.round_lang.specs.declared.block.Field.{Field}
use Rattle.round_lang.specs.declared.program.Variable.{Variable}
use Rattle.round_lang.specs.declared.program.VariableKind.{VariableKind}
use Rattle.round_lang.specs.declared.program.VariableKind.TheVariants.{Input, State}
use Rattle.round_lang.specs.Tree.{Tree, TNumber, TFixed, TNamed, TUnary, TBinary, TIf, TSetOf}
use Rattle.round_lang.specs.Tree.{TRowOf}
use Rattle.round_lang.specs.Syntax.{BlockTree, ProgramTree}
use Rattle.round_check.specs.Names.{is_input}

-- just one of the names is x
abbrev pub IsOneOf : List ℕ → List (List ℕ) → Type 0
IsOneOf x names = length (filter (λ y. bytes_eq y x) names) ≡ 1

-- each name that the expression reads is that of one thing: of one comprehension variable around
-- it, or of one of the other things in scope
abbrev pub ReadsOne : List (List ℕ) → Tree → Type 0
ReadsOne scope (TNumber n) = ⊤
ReadsOne scope (TFixed k) = ⊤
ReadsOne scope (TNamed x) = IsOneOf x scope
ReadsOne scope (TUnary op a) = ReadsOne scope a
ReadsOne scope (TBinary op a b) = ReadsOne scope a × ReadsOne scope b
ReadsOne scope (TIf c a b) = ReadsOne scope c × ReadsOne scope a × ReadsOne scope b
ReadsOne scope (TSetOf x e) = ReadsOne (x ∷ scope) e
ReadsOne scope (TRowOf x e) = ReadsOne (x ∷ scope) e

-- the names of state variables and the input
abbrev pub variable_names : List Variable → List (List ℕ)
variable_names vs = map (λ (v : Variable). v.name) vs

-- the names of inputs
abbrev pub input_names : List Variable → List (List ℕ)
input_names vs = variable_names (filter (λ (v : Variable). is_input v.kind) vs)

-- the names of fields
abbrev pub field_names : List Field → List (List ℕ)
field_names fs = map (λ (f : Field). f.name) fs

-- an initial value has the input alone in scope
abbrev pub StartReadsOne : List (List ℕ) → VariableKind → Type 0
StartReadsOne inputs Input = ⊤
StartReadsOne inputs (State ty start) = ReadsOne inputs start

-- an assignment is to one variable
pub record AssignsOne (variables scope : List (List ℕ)) (a : Assignment) : Type 0 where
  pub target : IsOneOf a.target variables
  pub formula : ReadsOne scope a.formula

-- `send` and `end` have the variables in scope, `on message` the block's fields too
pub record BlockReadsOne (variables : List (List ℕ)) (b : BlockTree) : Type 0 where
  pub condition : ReadsOne variables b.condition
  pub sent : All (ReadsOne variables) b.sent
  pub on_message : All (AssignsOne variables (field_names b.fields ++ variables)) b.on_message
  pub end : All (AssignsOne variables variables) b.end

-- each name in a program is that of one thing: of one comprehension variable, field or variable
-- where it is read, and of one variable where it is assigned to or decided
pub record NamesHaveOneMeaning (p : ProgramTree) : Type 0 where
  pub starts : All (λ (v : Variable). StartReadsOne (input_names p.variables) v.kind) p.variables
  pub blocks : All (BlockReadsOne (variable_names p.variables)) p.blocks
  pub decides : All (λ (x : List ℕ). IsOneOf x (variable_names p.variables)) p.decides
