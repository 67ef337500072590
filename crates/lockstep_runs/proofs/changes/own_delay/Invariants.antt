use Rattle.std.proofs.Common.{◌≡◌, drop}
use Rattle.lockstep_runs.specs.Changes.{delay_or, own_delay}
use Rattle.lockstep_runs.proofs.changes.own_delay.Given as goal

abbrev pub invariant-loop-delay : goal.invariant-loop-delay
invariant-loop-delay l =
    delay_or l.found (drop l.delay-index l.delays) l.name ≡ own_delay l.fn.delays l.name
