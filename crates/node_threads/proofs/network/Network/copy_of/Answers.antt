use Rattle.std.proofs.Common.{Some, None}
use Rattle.node_threads.proofs.Chosen.{copy_found}
use Rattle.node_threads.proofs.network.Network.copy_of.Goals as goal

pub returns-in-Some : goal.returns-in-Some
returns-in-Some g c = copy_found g.P.Plan.start c.args.self.now.post.now c.args.name
    (Some c.in-Some.copied) c.in_ok-copied.field-0 c.in-Some.is c.in_ok-copied.ensures.ok

pub returns-in-None : goal.returns-in-None
returns-in-None g c = copy_found g.P.Plan.start c.args.self.now.post.now c.args.name None c.in_ok-copied.field-0 c.in-None.is
    c.in_ok-copied.ensures.ok
