use Rattle.std.proofs.Common.{ap₂, subst}
use Rattle.command_runs.specs.InOmissions.{ShowsOmitting}
use Rattle.command_runs.proofs.omitting.report_by.Goals as goal
use Rattle.slot_plans.specs.Named.{start_of}

pub returns-clause-made : goal.returns-clause-made
returns-clause-made c =
    let a = c.args.asked.now in
    let made = c.in-Some.ensures.made in
    let ran = c.in_ok-rounds_omitting in
    subst (λ f. ShowsOmitting f a.program a.setup a.omissions ran.field-0)
    (ap₂ start_of made.1 made.0) ran.ensures.made
