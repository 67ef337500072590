use Rattle.std.proofs.Common.{◌≡◌, map, take}
use Rattle.round_check.specs.Types.{kind_type}
use Rattle.omission_explainer.proofs.variables.variable_types.Given as goal

abbrev pub invariant-loop-variable : goal.invariant-loop-variable
invariant-loop-variable l = l.types.items ≡ map (λ d. kind_type d.kind)
    (take l.variable-index l.program.variables)
