use Rattle.std.proofs.Common.{sym, ◌∙◌}
use Rattle.locked_buffers.proofs.Received.{mail_waits}
use Rattle.locked_buffers.proofs.commit.commit_receive.Goals as goal

pub returns-clause-mail : goal.returns-clause-mail
returns-clause-mail g c =
    mail_waits g.P.Plan.start c.args.run.now c.args.book.now c.args.buffer.now.frames c.args.node
    c.take-frames.result.items
    c.args.mail.now.waiting c.waiting-else-not-has_book.result.now
    c.requires.buffer.of_run c.requires.names c.requires.known
    (sym c.waiting.ensures ∙ c.are_same_names.ensures.0 c.if-not-are_same_names.false)
    c.waiting-else-not-has_book.ensures.value c.honest.ensures c.take-frames.ensures.taken
