use Rattle.node_threads.proofs.Together.{together_closed}
use Rattle.node_threads.proofs.body.close_round.Goals as goal

pub returns-clause-together : goal.returns-clause-together
returns-clause-together g c =
    together_closed _ c.args.seat.now c.close.new.seat c.args.node.now
    c.finish.follows.lender-at-none c.settle.new.self _
    c.requires.together c.in_ok-close.ensures.ok c.finish.follows.holds-at-none.0 c.settle.ensures
