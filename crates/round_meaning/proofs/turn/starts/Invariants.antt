use Rattle.std.proofs.Common.{◌≡◌, map, take}
use Rattle.round_lang.specs.declared.program.Variable.{Variable}
use Rattle.round_meaning.specs.Envs.{env_of}
use Rattle.round_meaning.specs.Turn.{begins}
use Rattle.round_meaning.proofs.turn.starts.Given as goal

abbrev pub invariant-loop-variable : goal.invariant-loop-variable
invariant-loop-variable l =
    l.values ≡ map (λ (d : Variable). begins (env_of l.env) l.input d.kind)
    (take l.variable-index l.variables)
