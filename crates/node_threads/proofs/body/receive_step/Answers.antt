use Rattle.std.proofs.Common.{ap}
use Rattle.locked_buffers.specs.Seats.{Account}
use Rattle.node_threads.proofs.Together.{together_received}
use Rattle.node_threads.proofs.body.receive_step.Goals as goal

pub returns-clause-together : goal.returns-clause-together
returns-clause-together g c =
    together_received _ c.args.seat.now c.receive.new.seat c.args.node.now c.take_all.new.node
    c.in_ok-took.took.frames.items
    c.requires.together (ap (λ (a : Account). a.node) c.in_ok-took.ensures.ok)
    (ap (λ (a : Account). a.states) c.in_ok-took.ensures.ok) c.take_all.ensures
