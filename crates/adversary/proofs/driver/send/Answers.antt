use Rattle.std.proofs.Common.{◌≡◌, ◌∙◌, ap, subst, sym}
use Rattle.step_book.proofs.Starts.{plan_is}
use Rattle.step_book.specs.Log.{Recorded, happened}
use Rattle.run_events.specs.declared.event.Event.TheVariants.{Step}
use Rattle.step_machine.specs.Sealed.{Ready}
use Rattle.step_machine.specs.Nodes.{NodeView}
use Rattle.adversary.specs.Driving.{IsNodeOf}
use Rattle.adversary.proofs.Nodes.{node_sent, noted, send_fit}
use Rattle.adversary.proofs.driver.send.Goals as goal

pub returns-clause-node : goal.returns-clause-node
returns-clause-node g c =
    let j = c.args.journal.now in
    let start = g.P.Plan.start j.plan in
    let me = c.args.me in
    let plan = plan_is start (g.P.Plan.receives j.plan) (g.P.Plan.nodes j.plan) j.log
    (g.met.P.Plan.laws j.plan) c.requires.nodes in
    let from : c.in_ok-prepared.prepared.name.from ≡ me =
    ap (λ (p : Ready). p.name.from) c.in_ok-prepared.ensures.ready ∙ c.requires.node.me in
    let is : c.record_send.new.self ≡ record { plan = j.plan; log = happened j.log (Step me) } =
    c.in-Ok.ensures.ok.recorded
    ∙ ap (λ k. record { plan = j.plan; log = happened j.log (Step k) }) from in
    let sent = node_sent start j.log (happened j.log (Step me)) me c.args.dest c.args.node.now plan
    (noted j.log me (Step me)) c.requires.dest c.requires.round c.requires.slot
    c.requires.node in
    subst (λ (z : Recorded _). IsNodeOf (g.P.Plan.start z.plan) z.log me c.prepare.new.self)
    (sym is)
    (subst (λ (n : NodeView). IsNodeOf start (happened j.log (Step me)) me n)
    (sym c.in_ok-prepared.ensures.same) sent)

pub record_send-requires-clause-fit : goal.record_send-requires-clause-fit
record_send-requires-clause-fit g c =
    let j = c.args.journal.now in
    let ready = c.in_ok-prepared.ensures.ready in
    send_fit (g.P.Plan.start j.plan) j.log c.args.me c.args.dest c.args.node.now
    c.in_ok-prepared.prepared c.requires.round c.requires.slot c.requires.node
    (ap (λ (p : Ready). p.name) ready) (ap (λ (p : Ready). p.state) ready)
