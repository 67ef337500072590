use Rattle.step_journal.proofs.Handed.{waiting_said}
use Rattle.step_journal.proofs.journal.Journal.waiting.Goals as goal

pub returns-clause-said : goal.returns-clause-said
returns-clause-said g c =
    waiting_said g.P.Plan.start c.self.view_is c.self.invariant c.agrees.ensures.faithful
    c.args.node c.index-buffer.result.now c.waiting.result.now.items c.requires
    c.index-buffer.ensures c.waiting.ensures
