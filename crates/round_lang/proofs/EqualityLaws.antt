-- `==` on these types, which is derived, answers true exactly if the two are one.
use Rattle.std.proofs.Common.{◌≡◌, Decides, rules}
use Rattle.round_lang.specs.declared.block.Field.{Field}
use Rattle.round_lang.specs.declared.block.Assignment.{Assignment}
use Rattle.round_lang.specs.declared.program.Variable.{Variable}
use Rattle.round_lang.specs.declared.program.VariableKind.{VariableKind}
use Rattle.round_lang.specs.declared.program.VariableKind.TheVariants.{Input, State}
use Rattle.round_lang.specs.declared.value.Value.{Value}
use Rattle.round_lang.specs.declared.value.Value.TheVariants.{Num, Flag, Set, Row}
use Rattle.round_lang.specs.contracts.block.FieldPartialEq.TheImpl.{eq-value as field}
use Rattle.round_lang.specs.contracts.block.AssignmentPartialEq.TheImpl.{eq-value as assignment}
use Rattle.round_lang.specs.contracts.program.VariablePartialEq.TheImpl.{eq-value as variable}
use Rattle.round_lang.specs.contracts.program.VariableKindPartialEq.TheImpl.{eq-value as variable_kind}
use Rattle.round_lang.specs.contracts.value.ValuePartialEq.TheImpl.{eq-value as value}
use Rattle.round_lang.specs.contracts.identifier.Identifier as identifier
use Rattle.round_lang.specs.contracts.formula.Formula as formula
use Rattle.round_lang.specs.contracts.row.Row as row
use Rattle.round_lang.specs.Equality.{is_same_decides}

pub field_decides : (a b : Field) → Decides (field.it a b) (a ≡ b)
field_decides a b =
    let names = is_same_decides identifier.the_row.coded a.name b.name in
    search rules

pub assignment_decides : (a b : Assignment) → Decides (assignment.it a b) (a ≡ b)
assignment_decides a b =
    let targets = is_same_decides identifier.the_row.coded a.target b.target in
    let formulas = is_same_decides formula.the_row.coded a.formula b.formula in
    search rules

pub variable_kind_decides : (a b : VariableKind) → Decides (variable_kind.it a b) (a ≡ b)
variable_kind_decides Input Input = search rules
variable_kind_decides Input (State u t) = search rules
variable_kind_decides (State s f) Input = search rules
variable_kind_decides (State s f) (State u g) =
    let starts = is_same_decides formula.the_row.coded f g in
    search rules

pub variable_decides : (a b : Variable) → Decides (variable.it a b) (a ≡ b)
variable_decides a b =
    let names = is_same_decides identifier.the_row.coded a.name b.name in
    let kinds = variable_kind_decides a.kind b.kind in
    search rules

pub value_decides : (a b : Value) → Decides (value.it a b) (a ≡ b)
value_decides (Num m) (Num n) = search rules
value_decides (Flag m) (Flag n) = search rules
value_decides (Set m) (Set n) = search rules
value_decides (Row m) (Row n) =
    let rows = is_same_decides row.the_row.coded m n in
    search rules
value_decides a b = search rules
