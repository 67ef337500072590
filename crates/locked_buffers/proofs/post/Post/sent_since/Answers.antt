use Rattle.locked_buffers.specs.Runs.{AddsSentAfter}
use Rattle.locked_buffers.proofs.Read.{read_in_run, unread_in_run}
use Rattle.locked_buffers.proofs.post.Post.sent_since.Goals as goal

pub returns-clause-ok : goal.returns-clause-ok
returns-clause-ok g c =
    read_in_run g.P.Plan.start c.self.inside.run c.args.self.now c.deref-2.result.now
    (λ one count. AddsSentAfter g.P.Plan.start one c.args.known c.args.sent.now.items
    c.read_sent.new.sent.items count) c.read_sent.result
    c.self.view_is c.read_sent.ensures.of_run c.read_sent.ensures.sent

pub returns-clause-cause : goal.returns-clause-cause
returns-clause-cause g c =
    unread_in_run c.self.inside.run c.args.self.now c.deref-2.result.now c.read_sent.result
    c.self.view_is c.read_sent.ensures.cause
