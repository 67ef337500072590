use Rattle.locked_buffers.proofs.Copied.{next_is}
use Rattle.locked_buffers.proofs.reading.read_copy.Goals as goal

pub returns-clause-copy : goal.returns-clause-copy
returns-clause-copy g c =
    next_is g.P.Plan.start c.args.book.now c.args.name c.next_copy.result c.next_copy.ensures.some
    c.next_copy.ensures.none
