use Rattle.std.proofs.Common.{subst, sym}
use Rattle.round_meaning.specs.declared.setup.Setup.{Setup}
use Rattle.step_book.proofs.Starts.{plan_is}
use Rattle.step_book.specs.Log.{Recorded, happened}
use Rattle.run_events.specs.declared.event.Event.TheVariants.{Step}
use Rattle.step_machine.specs.Nodes.{HasPlaces}
use Rattle.adversary.specs.Driving.{IsNodeOf}
use Rattle.adversary.proofs.Nodes.{node_received, noted, receive_fit}
use Rattle.adversary.proofs.driver.receive.Goals as goal

pub take_all-requires-clause-mail : goal.take_all-requires-clause-mail
take_all-requires-clause-mail g c =
    let is = c.requires.node in
    let program = is.program in
    let setup = is.setup in
    let me = is.me in
    rw (program, setup, me) c.in_ok-took.ensures.took.mail

pub take_all-requires-clause-places : goal.take_all-requires-clause-places
take_all-requires-clause-places g c =
    subst (λ (s : Setup). HasPlaces s.nodes c.args.node.now.held)
    (sym c.requires.node.setup) c.requires.node.places

pub record_receive-requires-clause-fit : goal.record_receive-requires-clause-fit
record_receive-requires-clause-fit g c =
    let j = c.args.journal.now in
    let start = g.P.Plan.start j.plan in
    let plan = plan_is start (g.P.Plan.receives j.plan) (g.P.Plan.nodes j.plan) j.log
    (g.met.P.Plan.laws j.plan) c.requires.nodes in
    receive_fit start j.log c.args.me plan c.requires.round c.requires.sent

pub returns-clause-node : goal.returns-clause-node
returns-clause-node g c =
    let j = c.args.journal.now in
    let start = g.P.Plan.start j.plan in
    let me = c.args.me in
    let plan = plan_is start (g.P.Plan.receives j.plan) (g.P.Plan.nodes j.plan) j.log
    (g.met.P.Plan.laws j.plan) c.requires.nodes in
    let got = c.in_ok-took.ensures in
    subst (λ (z : Recorded _). IsNodeOf (g.P.Plan.start z.plan) z.log me c.take_all.new.node)
    (sym got.ok.recorded)
    (node_received start j.log (happened j.log (Step me)) me c.args.node.now c.take_all.new.node
    c.in_ok-took.took.frames.items plan (noted j.log me (Step me))
    c.requires.round (receive_fit start j.log me plan c.requires.round c.requires.sent)
    got.took.once got.took.mail got.took.said c.take_all.ensures c.requires.node)
