use Rattle.std.proofs.Common.{◌≡◌, map, take}
use Rattle.omission_explainer.proofs.variables.variable_names.Given as goal

abbrev pub invariant-loop-variable : goal.invariant-loop-variable
invariant-loop-variable l = l.names.items ≡ map (λ d. d.name)
    (take l.variable-index l.program.variables)
