use Rattle.command_runs.proofs.Explored.{outcome_no}
use Rattle.command_runs.proofs.outcome.Outcome.of.Goals as goal

pub returns-in-Some : goal.returns-in-Some
returns-in-Some c =
    outcome_no c.args.told.now c.in-Some.field-0.name c.in-Some.field-0.found.now
    c.in-Some.ensures.some
