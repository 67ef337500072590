use Rattle.std.proofs.Common.{◌≡◌, map, take}
use Rattle.round_lang.specs.Tree.{Tree}
use Rattle.round_meaning.specs.Envs.{env_of}
use Rattle.round_meaning.specs.Meaning.{value}
use Rattle.round_meaning.proofs.turn.values_of.Given as goal

abbrev pub invariant-loop-formula : goal.invariant-loop-formula
invariant-loop-formula l =
    l.values ≡ map (λ (e : Tree). value e (env_of l.env)) (take l.formula-index l.formulas)
