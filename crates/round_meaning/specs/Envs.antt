-- What the evaluator's environment is, without the places of its parts in memory.
use Rattle.std.specs.Prelude.{ℕ, List, [], ◌∷◌}
use Rattle.round_meaning.specs.declared.env.Env.{Env as CodeEnv}
use Rattle.round_meaning.specs.declared.env.Scope.{Scope}
use Rattle.round_meaning.specs.declared.env.Scope.TheVariants.{Outermost, Inner'}
use Rattle.round_meaning.specs.declared.env.Place.{Place}
use Rattle.round_meaning.specs.declared.env.Place.TheVariants.{Number, At}
use Rattle.round_lang.specs.declared.value.Value.{Value}
use Rattle.round_lang.specs.declared.value.Value.TheVariants.{Num}
use Rattle.round_lang.specs.Values.{at}
use Rattle.round_meaning.specs.Meaning.{Env}

abbrev pub scope_of : Scope → List (List ℕ × ℕ)
scope_of Outermost = []
scope_of (Inner' x v p s) = (x.now, v) ∷ scope_of s

-- the environment that the evaluator's is
abbrev pub env_of : CodeEnv → Env
env_of env = record {
  values = env.values;
  me = env.me;
  nodes = env.nodes;
  faults = env.faults;
  round = env.round;
  phase = env.phase;
  dest = env.dest;
  from = env.from;
  variables = env.variables.now;
  vars = env.vars.now;
  fields = env.fields.now;
  message = env.message.now;
  bound = scope_of env.bound.now;
}

-- the value that stands at a place
abbrev pub found : Place → Value
found (Number n) = Num n
found (At values i) = at values.now i
