use Rattle.std.proofs.Common.{◌≡◌, map}
use Rattle.std.specs.List.{range_with_len}
use Rattle.round_lang.specs.Sets.{set_of}
use Rattle.round_lang.specs.Tree.{tree_of}
use Rattle.round_lang.specs.Values.{num, flag}
use Rattle.round_meaning.specs.Envs.{env_of}
use Rattle.round_meaning.specs.Meaning.{value, bind}
use Rattle.round_meaning.proofs.evaluator.+eval.Given as goal

abbrev pub invariant-eval_set-loop-v : goal.invariant-eval_set-loop-v
invariant-eval_set-loop-v l =
    l.bits ≡ set_of l.v (λ v. flag (value (tree_of l.body) (bind l.name (env_of l.env) v)))

abbrev pub invariant-eval_row-loop-v : goal.invariant-eval_row-loop-v
invariant-eval_row-loop-v l =
    l.entries.items ≡ map (λ v. num (value (tree_of l.body) (bind l.name (env_of l.env) v)))
    (range_with_len 0 l.v)
