use Rattle.std.proofs.Common.{ap, sym, ◌∙◌}
use Rattle.round_check.proofs.Facts.{none-typed, typed-none}
use Rattle.round_check.proofs.checked.check.Goals as goal
use Rattle.round_check.specs.Causes.{is_typed}

pub returns-in-Ok-clause-typed : goal.returns-in-Ok-clause-typed
returns-in-Ok-clause-typed c = typed-none c.args.program (sym c.in_default.ensures)

pub invariant_of-result : goal.invariant_of-result
invariant_of-result c =
    ap is_typed c.in-Ok.ensures ∙ typed-none c.args.program (sym c.in_default.ensures)

pub returns-in-Some-clause-memory_alone : goal.returns-in-Some-clause-memory_alone
returns-in-Some-clause-memory_alone c =
    λ typed. absurd (none-typed c.args.program c.in-Some.fault (sym c.in-Some.ensures) typed)
