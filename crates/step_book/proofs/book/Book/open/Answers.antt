use Rattle.step_book.proofs.Starts.{begins, none_handed, none_wait, opened_is}
use Rattle.step_book.proofs.book.Book.open.Goals as goal

pub invariant_of-result : goal.invariant_of-result
invariant_of-result g c =
    begins (g.P.Plan.start c.args.plan) (g.P.Plan.receives c.args.plan)
    (g.P.Plan.nodes c.args.plan) _ c.args.program.now c.args.setup.now _ _ _ _ _ _
    (g.met.P.Plan.laws c.args.plan)
    c.requires.lawful c.requires.nodes
    (opened_is c.args.program.now c.args.setup.now _ c.in_ok-copy.ensures c.in_ok-copy-2.ensures
    c.new.ensures.items c.in_ok-states.ensures)
    c.in_ok-steps.ensures c.new-2.ensures (none_wait _ _ c.in_ok-mails.ensures)
    (none_handed _ _ c.in_ok-mails.ensures) c.new-3.ensures.items c.new-4.ensures.items
