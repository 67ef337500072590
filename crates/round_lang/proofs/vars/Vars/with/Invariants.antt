use Rattle.std.proofs.Common.{◌≡◌, take}
use Rattle.std.specs.Prelude.{slice_set}
use Rattle.round_lang.proofs.vars.Vars.with.Given as goal

abbrev pub invariant-loop-i : goal.invariant-loop-i
invariant-loop-i l = l.values ≡ take l.i (slice_set l.self l.place l.value)
