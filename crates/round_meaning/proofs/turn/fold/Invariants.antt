use Rattle.std.proofs.Common.{◌≡◌, drop}
use Rattle.round_meaning.specs.Envs.{env_of}
use Rattle.round_meaning.specs.Turn.{folded}
use Rattle.round_meaning.proofs.turn.fold.Given as goal

abbrev pub invariant-loop-heard : goal.invariant-loop-heard
invariant-loop-heard l =
    folded l.block (env_of l.env) (drop l.heard-index l.inbox) l.vars
    ≡ folded l.block (env_of l.env) l.inbox l.initial.vars
