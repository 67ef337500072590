use Rattle.std.proofs.Common.{◌≡◌, map, take}
use Rattle.round_lang.specs.declared.program.Variable.{Variable}
use Rattle.round_lang.specs.Words.{kind_for}
use Rattle.round_check.specs.Types.{kind_type}
use Rattle.round_check.proofs.shapes.state_shape.Given as goal

abbrev pub invariant-loop-variable : goal.invariant-loop-variable
invariant-loop-variable l =
    l.kinds.items ≡ map (λ (v : Variable). kind_for l.values (kind_type v.kind))
    (take l.variable-index l.variable-items)
