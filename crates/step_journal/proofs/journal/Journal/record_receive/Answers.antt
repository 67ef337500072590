use Rattle.step_journal.proofs.Handed.{waiting_out}
use Rattle.step_journal.proofs.journal.Journal.record_receive.Goals as goal

pub returns-clause-took : goal.returns-clause-took
returns-clause-took g c =
    waiting_out g.P.Plan.start c.self.view_is c.self.invariant c.agrees.ensures.faithful
    c.args.node c.index_mut-buffer.result.now c.take-frames.result.items c.requires.node
    c.index_mut-buffer.ensures.value c.take-frames.ensures.taken
    c.in_ok-record_receive.ensures.ok.once
