use Rattle.run_samples.proofs.drawing.next_failure.Goals as goal

pub returns-clause-kind : goal.returns-clause-kind
returns-clause-kind c = c.spared.ensures.kind c.args.question.faults
    c.drawn_failure-failure.ensures
