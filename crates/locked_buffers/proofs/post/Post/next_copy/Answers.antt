use Rattle.locked_buffers.specs.Runs.{IsNextCopy}
use Rattle.locked_buffers.proofs.Read.{read_in_run, unread_in_run}
use Rattle.locked_buffers.proofs.post.Post.next_copy.Goals as goal

pub returns-clause-ok : goal.returns-clause-ok
returns-clause-ok g c =
    read_in_run g.P.Plan.start c.self.inside.run c.args.self.now c.deref-2.result.now
    (λ one copied. IsNextCopy g.P.Plan.start one c.args.name copied) c.read_copy.result
    c.self.view_is c.read_copy.ensures.of_run c.read_copy.ensures.copy

pub returns-clause-cause : goal.returns-clause-cause
returns-clause-cause g c =
    unread_in_run c.self.inside.run c.args.self.now c.deref-2.result.now c.read_copy.result
    c.self.view_is c.read_copy.ensures.cause
