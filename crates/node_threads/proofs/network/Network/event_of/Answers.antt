use Rattle.std.proofs.Common.{Some, subst, sym}
use Rattle.std.specs.Prelude.{IfOk}
use Rattle.policies.specs.declared.policy.Choice.{Choice}
use Rattle.node_threads.specs.Choices.{ComesToInOne}
use Rattle.node_threads.proofs.Chosen.{at_place, copy_comes}
use Rattle.node_threads.proofs.network.Network.event_of.Goals as goal

pub returns-in-Some-get-2 : goal.returns-in-Some-get-2
returns-in-Some-get-2 g c =
    let flight = c.args.self.now.flight in
    let k = c.in-Copy.place in
    let m = c.in-Some-get-2.message.now in
    let found = c.in-Some-get-2.ensures.lookup in
    let at = at_place flight c.messages-messages.result.now k m c.messages-messages.ensures
    found.3.0 found.3.1 in
    subst (λ (z : Choice). IfOk c.copy_of.result (ComesToInOne g.P.Plan.start flight (Some z)))
    (sym c.in-Copy.is)
    (copy_comes g.P.Plan.start c.args.self.now.post.now flight k m.name c.copy_of.result at c.copy_of.ensures)
