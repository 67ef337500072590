-- The rules on names, and where a program breaks them.
use Rattle.std.specs.Prelude.{ℕ, Bool, true, false, ◌&&◌, ◌||◌, not, List, [], ◌∷◌, if◌then◌else◌}
use Rattle.std.specs.List.{list_any}
use Rattle.round_lang.specs.declared.expr.Constant.{Constant}
use Rattle.round_lang.specs.declared.expr.Constant.TheVariants.{Round, Phase, Dest, From}
use Rattle.round_lang.specs.declared.block.Field.{Field}
use Rattle.round_lang.specs.declared.block.Assignment.{Assignment}
use Rattle.round_lang.specs.declared.program.Variable.{Variable}
use Rattle.round_lang.specs.declared.program.VariableKind.{VariableKind}
use Rattle.round_lang.specs.declared.program.VariableKind.TheVariants.{Input, State}
use Rattle.round_lang.specs.Tree.{Tree, TNumber, TFixed, TNamed, TUnary, TBinary, TIf, TSetOf}
use Rattle.round_lang.specs.Tree.{TRowOf}
use Rattle.round_lang.specs.Syntax.{BlockTree, ProgramTree}
use Rattle.round_check.specs.declared.rules.Rule.{Rule}
use Rattle.round_check.specs.declared.rules.Rule.TheVariants.{Fresh, Known, Allowed}
use Rattle.round_check.specs.declared.rules.Place.{Place}
use Rattle.round_check.specs.declared.rules.Place.TheVariants.{Start, Send, OnMessage, End}
use Rattle.round_check.specs.declared.rules.Scope.{Scope as CodeScope}
use Rattle.round_check.specs.Names.{names_of, contains_name, declares, declares_state, has_field}
use Rattle.round_check.specs.Names.{some_field}

-- where an expression stands: the program's variables and blocks, the fields of its own block (none
-- in an initial value), its place there, and the comprehension variables in scope
pub record Scope : Type 0 where
  pub variables : List Variable
  pub blocks : List BlockTree
  pub fields : List Field
  pub place : Place
  pub bound : List (List ℕ)

-- the scope that the code holds by references
abbrev pub scope_of : CodeScope → Scope
scope_of s = record {
  variables = s.variables.now;
  blocks = s.blocks.now;
  fields = s.fields.now;
  place = s.place;
  bound = names_of s.bound.now;
}

-- the place is an initial value
abbrev pub is_start : Place → Bool
is_start Start = true
is_start place = false

-- the place is `send` or its condition
abbrev pub is_send : Place → Bool
is_send Send = true
is_send place = false

-- the place is `on message`
abbrev pub is_on_message : Place → Bool
is_on_message OnMessage = true
is_on_message place = false

-- `dest` stands in `send` alone, `from` in `on message`, `round` and `phase` in no initial value
abbrev pub allows : Constant → Place → Bool
allows Dest place = is_send place
allows From place = is_on_message place
allows Round place = not (is_start place)
allows Phase place = not (is_start place)
allows k place = true

-- the fields that may be read: those of the block, in its `on message`
abbrev pub readable : Place → List Field → List Field
readable place fs = if is_on_message place then fs else []

-- x is a state or input variable, or a field of some block
abbrev pub is_declared : List Variable → List BlockTree → List ℕ → Bool
is_declared vs bs x = declares vs x || some_field bs x

-- x is a field, and none that may be read here
abbrev pub is_field_elsewhere : List ℕ → Scope → Bool
is_field_elsewhere x s = some_field s.blocks x && not (has_field (readable s.place s.fields) x)

-- x is a state variable other than the input, used in an initial value
abbrev pub is_state_at_start : List ℕ → Scope → Bool
is_state_at_start x s = is_start s.place && declares_state s.variables x

-- a constant breaks a rule where it stands
abbrev pub breaks_constant : Rule → Constant → Place → Bool
breaks_constant Fresh k place = false
breaks_constant Known k place = false
breaks_constant Allowed k place = not (allows k place)

-- a name that is read breaks a rule where it stands
abbrev pub breaks_name : Rule → List ℕ → Scope → Bool
breaks_name Fresh x s = false
breaks_name Known x s = not (contains_name s.bound x || is_declared s.variables s.blocks x)
breaks_name Allowed x s =
    not (contains_name s.bound x) && (is_field_elsewhere x s || is_state_at_start x s)

-- a comprehension variable breaks a rule: it has the name of a variable, of a field of its block or
-- of an enclosing comprehension's variable
abbrev pub breaks_binder : Rule → List ℕ → Scope → Bool
breaks_binder Fresh x s = contains_name s.bound x || has_field s.fields x || declares s.variables x
breaks_binder Known x s = false
breaks_binder Allowed x s = false

-- the target of an assignment or of `decide` breaks a rule
abbrev pub breaks_target : Rule → List ℕ → List Variable → List BlockTree → Bool
breaks_target Fresh x vs bs = false
breaks_target Known x vs bs = not (is_declared vs bs x)
breaks_target Allowed x vs bs = some_field bs x

-- the scope of a comprehension's body
abbrev pub within : List ℕ → Scope → Scope
within x s = record s { bound = x ∷ s.bound }

-- some constant, name or comprehension variable of an expression breaks a rule
abbrev pub breaks : Rule → Tree → Scope → Bool
breaks r (TNumber n) s = false
breaks r (TFixed k) s = breaks_constant r k s.place
breaks r (TNamed x) s = breaks_name r x s
breaks r (TUnary op a) s = breaks r a s
breaks r (TBinary op a b) s = breaks r a s || breaks r b s
breaks r (TIf c a b) s = breaks r c s || breaks r a s || breaks r b s
breaks r (TSetOf x e) s = breaks_binder r x s || breaks r e (within x s)
breaks r (TRowOf x e) s = breaks_binder r x s || breaks r e (within x s)

-- the scope of the initial values
abbrev pub start_scope : ProgramTree → Scope
start_scope p =
    record { variables = p.variables; blocks = p.blocks; fields = []; place = Start; bound = [] }

-- the scope of a place of a block
abbrev pub in_block : BlockTree → Place → Scope → Scope
in_block b place s = record s { fields = b.fields; place = place }

-- something in an initial value breaks a rule
abbrev pub breaks_start : Rule → VariableKind → Scope → Bool
breaks_start r Input s = false
breaks_start r (State ty start) s = breaks r start s

-- a target or something in its expression breaks a rule
abbrev pub breaks_assignment : Rule → Scope → Assignment → Bool
breaks_assignment r s a = breaks_target r a.target s.variables s.blocks || breaks r a.formula s

-- something in a block breaks a rule
abbrev pub breaks_block : Rule → Scope → BlockTree → Bool
breaks_block r s b =
    breaks r b.condition (in_block b Send s)
    || list_any (λ (e : Tree). breaks r e (in_block b Send s)) b.sent
    || list_any (breaks_assignment r (in_block b OnMessage s)) b.on_message
    || list_any (breaks_assignment r (in_block b End s)) b.end

-- something in a program breaks a rule
abbrev pub breaks_program : Rule → ProgramTree → Bool
breaks_program r p =
    list_any (λ (v : Variable). breaks_start r v.kind (start_scope p)) p.variables
    || list_any (breaks_block r (start_scope p)) p.blocks
    || list_any (λ (x : List ℕ). breaks_target r x p.variables p.blocks) p.decides
