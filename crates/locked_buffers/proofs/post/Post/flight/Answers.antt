use Rattle.locked_buffers.specs.Runs.{IsFlightAfter}
use Rattle.locked_buffers.proofs.Read.{read_in_run, unread_in_run}
use Rattle.locked_buffers.proofs.post.Post.flight.Goals as goal

pub returns-clause-ok : goal.returns-clause-ok
returns-clause-ok g c =
    read_in_run g.P.Plan.start c.self.inside.run c.args.self.now c.deref-2.result.now
    (λ one o. IsFlightAfter g.P.Plan.start one o.0.items o.1) c.read_flight.result
    c.self.view_is c.read_flight.ensures.of_run c.read_flight.ensures.flight

pub returns-clause-cause : goal.returns-clause-cause
returns-clause-cause g c =
    unread_in_run c.self.inside.run c.args.self.now c.deref-2.result.now c.read_flight.result
    c.self.view_is c.read_flight.ensures.cause
