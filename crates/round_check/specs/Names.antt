-- What a name of a program stands for.
use Rattle.std.specs.Prelude.{ℕ, Bool, true, false, ◌&&◌, ◌||◌, not, List, [], ◌∷◌}
use Rattle.std.specs.List.{list_any}
use Rattle.std.specs.Str.{bytes_eq}
use Rattle.round_lang.specs.Syntax.{BlockTree}
use Rattle.round_lang.specs.declared.block.Field.{Field}
use Rattle.round_lang.specs.declared.program.Variable.{Variable}
use Rattle.round_lang.specs.declared.program.VariableKind.{VariableKind}
use Rattle.round_lang.specs.declared.program.VariableKind.TheVariants.{Input, State}
use Rattle.round_check.specs.declared.names.Names.{Names}
use Rattle.round_check.specs.declared.names.Names.TheVariants.{Outermost, Inner'}

-- comprehension variables in scope, the innermost first
abbrev pub names_of : Names → List (List ℕ)
names_of Outermost = []
names_of (Inner' x p ns) = x.now ∷ names_of ns

-- x is among the names
abbrev pub contains_name : List (List ℕ) → List ℕ → Bool
contains_name [] x = false
contains_name (b ∷ bs) x = bytes_eq b x || contains_name bs x

-- the variable is the node's input
abbrev pub is_input : VariableKind → Bool
is_input Input = true
is_input (State ty start) = false

-- x is the name of a state variable or of the input
abbrev pub declares : List Variable → List ℕ → Bool
declares vs x = list_any (λ (v : Variable). bytes_eq v.name x) vs

-- x is the name of a state variable other than the input
abbrev pub declares_state : List Variable → List ℕ → Bool
declares_state vs x = list_any (λ (v : Variable). not (is_input v.kind) && bytes_eq v.name x) vs

-- x is the name of one of the fields
abbrev pub has_field : List Field → List ℕ → Bool
has_field fs x = list_any (λ (f : Field). bytes_eq f.name x) fs

-- x is the name of a field of some block
abbrev pub some_field : List BlockTree → List ℕ → Bool
some_field bs x = list_any (λ (b : BlockTree). has_field b.fields x) bs
