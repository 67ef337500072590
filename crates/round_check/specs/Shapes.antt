-- The kinds of a program's values.
use Rattle.std.specs.Prelude.{ℕ, List, map}
use Rattle.round_lang.specs.declared.block.Field.{Field}
use Rattle.round_lang.specs.declared.kind.Kind.{Kind}
use Rattle.round_lang.specs.declared.program.Variable.{Variable}
use Rattle.round_lang.specs.Syntax.{BlockTree, ProgramTree}
use Rattle.round_lang.specs.Words.{kind_for}
use Rattle.round_check.specs.Types.{kind_type}

-- the kinds of a state's values, one for each variable
abbrev pub state_kinds : ProgramTree → List Kind
state_kinds p = map (λ (v : Variable). kind_for p.values (kind_type v.kind)) p.variables

-- the kinds of the values of a block's messages, one for each field
abbrev pub block_kinds : ℕ → BlockTree → List Kind
block_kinds k b = map (λ (f : Field). kind_for k f.ty) b.fields

-- the kinds of each block's fields
abbrev pub message_kinds : ProgramTree → List (List Kind)
message_kinds p = map (block_kinds p.values) p.blocks
