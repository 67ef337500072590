use Rattle.exploration_texts.proofs.Showing.{first_shown}
use Rattle.command_runs.proofs.exploring.trace_of.Goals as goal

pub shown-requires-clause-showable : goal.shown-requires-clause-showable
shown-requires-clause-showable g c =
    first_shown c.args.setup.now c.args.told.now c.in-Some.failed.name c.in-Some.failed.found.now
    c.requires.showable c.in-Some.ensures.some
