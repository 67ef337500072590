use Rattle.std.proofs.Common.{ap, ap₂, subst}
use Rattle.std.specs.Prelude.{string_bytes}
use Rattle.command_runs.specs.InLockstep.{IsWritten}
use Rattle.command_runs.specs.InOmissions.{realised_by}
use Rattle.command_runs.proofs.omitting.schedule_by.Goals as goal
use Rattle.slot_plans.specs.Named.{kind_of, receives_of, start_of}

pub returns-clause-made : goal.returns-clause-made
returns-clause-made c =
    let a = c.args.asked.now in
    let s = a.setup in
    let made = c.in-Some.ensures.made in
    let ran = c.in_ok-realised_schedule in
    subst (λ f. IsWritten s a.plan
    (realised_by f (start_of a.plan s.nodes) s a.omissions) (string_bytes ran.field-0))
    (ap receives_of made.1)
    (subst (λ f. IsWritten s a.plan
    (realised_by (receives_of (kind_of c.in-Some.plan)) f s a.omissions)
    (string_bytes ran.field-0)) (ap₂ start_of made.1 made.0) ran.ensures.made)
