use Rattle.std.proofs.Common.{◌≡◌, drop}
use Rattle.round_meaning.specs.Envs.{env_of}
use Rattle.round_meaning.specs.Turn.{runs}
use Rattle.round_meaning.proofs.turn.run.Given as goal

abbrev pub invariant-loop-assignment : goal.invariant-loop-assignment
invariant-loop-assignment l =
    runs (env_of l.env) (drop l.assignment-index l.assignments) l.vars
    ≡ runs (env_of l.env) l.assignments l.initial.vars
