use Rattle.step_journal.proofs.BufferViews.{fits_open, fits_view}
use Rattle.step_journal.proofs.journal.Journal.open.Goals as goal

pub invariant_of-result : goal.invariant_of-result
invariant_of-result g c = fits_view g.P.Plan.start c.in_ok-book.ensures
    (fits_open (g.P.Plan.start c.args.plan) c.args.program.now c.args.setup.now _
    c.in_ok-buffers.ensures)
