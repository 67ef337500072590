use Rattle.std.proofs.Common.{ap₂, subst}
use Rattle.command_runs.specs.ByThreads.{IsRunOf}
use Rattle.command_runs.proofs.threads.run_by.Goals as goal
use Rattle.slot_plans.specs.Named.{start_of}

pub returns-clause-told : goal.returns-clause-told
returns-clause-told g c =
    let p = c.args.program.now in
    let t = c.args.setup.now in
    let made = c.in-Some.ensures.made in
    subst (λ f. IsRunOf f p t c.in_ok-run.run') (ap₂ start_of made.1 made.0)
    c.in_ok-run.ensures.explained
